-- Steps that are left, and how each kind of step lessens them. Assumes nothing.
use Rattle.std.specs.Prelude.{ℕ, suc, ◌+◌, ◌<◌, ◌≤◌, ◌-◌, ◌≡◌, refl, List, [], ◌∷◌, ◌++◌, length}
use Rattle.std.proofs.Common.{arith}
use Rattle.meaning.specs.declared.Reg.{Reg}
use Rattle.meaning.specs.Lists.{Took, here, there}
use Rattle.meaning.specs.Pattern.{PNode, var, op, Pattern, node_of, Ordered, occ, sum}
use Rattle.meaning.specs.Compiler.{Item, item, Root, number, root_load}
use Rattle.meaning.specs.Laws.Instances.{occ_var, occ_op}
use Rattle.meaning.specs.Search.Order.{stands}

-- steps that are left: two for a child to be met, one less for an item that waits
unfoldable pub load : (ℕ → ℕ) → List Item → ℕ
load w [] = 0
load w (x ∷ l) = w x.node + load w l

unfoldable pub meets : Pattern → ℕ → ℕ
meets p n = occ p n + occ p n

unfoldable pub waits : Pattern → ℕ → ℕ
waits p n = occ p n + occ p n - 1

unfoldable pub measure : Pattern → List Root → List Item → List Item → ℕ
measure p R q t = root_load p R + (load (meets p) q + load (waits p) t)

pub load_took : (w : ℕ → ℕ) {x : Item} {l r : List Item} → Took x l r → load w l ≡ w x.node + load w r
unfolding load
load_took w here = refl
load_took w (there t) = let e = load_took w t in omega arith

pub load_append : (w : ℕ → ℕ) (s t : List Item) → load w (s ++ t) ≡ load w s + load w t
unfolding load
load_append w [] t = omega arith
load_append w (x ∷ s) t = let e = load_append w s t in omega arith

pub load_number : (p : Pattern) (k : ℕ) (cs : List ℕ) → load (meets p) (number k cs) ≡ sum (occ p) cs + sum (occ p) cs
unfolding load meets number sum
load_number p k [] = refl
load_number p k (c ∷ cs) = let e = load_number p (suc k) cs in omega arith

-- there is an occurrence at each node
pub occ_pos : {p : Pattern} (o : Ordered p) (n : ℕ) → n < length p → 1 ≤ occ p n
occ_pos {p} o n h = go (node_of p n) refl
  where
    go : (x : PNode) → node_of p n ≡ x → 1 ≤ occ p n
    go (var v) e = let f = occ_var o (stands (var v) h e) in omega arith
    go (op a cs) e = let f = occ_op o (stands (op a cs) h e) in omega arith

-- how much less there is to do
pub less_wait : (p : Pattern) (R : List Root) (x : Item) (q t : List Item) → 1 ≤ occ p x.node → measure p R q (t ++ (x ∷ [])) ≤ measure p R (x ∷ q) t - 1
unfolding measure load meets waits
less_wait p R x q t h = let e = load_append (waits p) t (x ∷ []) in omega arith

pub less_met : (p : Pattern) (R : List Root) (x : Item) (q t : List Item) → 1 ≤ occ p x.node → measure p R q t < measure p R (x ∷ q) t
unfolding measure load meets
less_met p R x q t h = omega arith

pub less_took : (p : Pattern) (R : List Root) {x : Item} {l t : List Item} → Took x l t → 1 ≤ occ p x.node → measure p R [] t < measure p R [] l
unfolding measure load waits
less_took p R {x} k h = let e = load_took (waits p) k in omega arith

pub less_spread : (p : Pattern) (R : List Root) {x : Item} {l t : List Item} (k : ℕ) (cs : List ℕ) → Took x l t → occ p x.node ≡ 1 + sum (occ p) cs → measure p R (number k cs) t ≤ measure p R [] l - 1
unfolding measure load waits
less_spread p R {x} k cs t h = let e = load_took (waits p) t in let f = load_number p k cs in omega arith

pub less_join : (p : Pattern) (q : Root) (R : List Root) (j : Reg) → measure p R (item q.top j ∷ []) [] ≤ measure p (q ∷ R) [] [] - 1
unfolding measure load meets root_load
less_join p q R j = omega arith

pub less_none : (p : Pattern) (q : Root) (R : List Root) → measure p R [] [] ≤ measure p (q ∷ R) [] [] - 1
unfolding measure load root_load
less_none p q R = omega arith

pub less_enter : (p : Pattern) (q : Root) (R : List Root) (j : Reg) → measure p R [] (item q.top j ∷ []) ≤ measure p (q ∷ R) [] [] - 1
unfolding measure load waits root_load
less_enter p q R j = omega arith

pub less_stay : (p : Pattern) → measure p [] [] [] ≤ measure p [] [] [] - 1
unfolding measure load root_load
less_stay p = omega arith
