-- The order by keys, one after another, as the comparison of tuples has it. Assumes nothing.
use Rattle.std.proofs.Common.{ℕ, ◌<◌, List, ◌≡◌, sym, refl, Bool, true, false, cond, not, eqb, nat_lt, nat_eq, Option, Some, Ordering, Less, Equal, Greater, arith}
use Rattle.std.specs.Cmp.{ranks}
use Rattle.std.specs.Ordering.{nat_cmp, bool_cmp, is_lt, is_some_and, partial_ordering_then, MatchOrdering}
use Rattle.meaning.specs.Graph.{smaller}
use Rattle.compiler.specs.declared.items.Item.{Item}
use Rattle.compiler.specs.declared.load.Weight.{Weight}
use Rattle.compiler.specs.Lists.{weight_at, free_count, goes_first}
use Rattle.meaning.specs.Compiler.{late}
use Rattle.meaning.proofs.Laws.Keys.{smaller_lt, smaller_gt, smaller_eq}

-- true below, false above, and on a tie the rest
abbrev decided : Ordering → Bool → Bool
decided Less r = true
decided Equal r = r
decided Greater r = false

-- the first key, and then the others
first : (a : Ordering) (q : Option Ordering) → is_some_and is_lt (partial_ordering_then (Some a) q) ≡ decided a (is_some_and is_lt q)
first Less q = refl
first Equal q = refl
first Greater q = refl

regrouped : (a : Ordering) (q r : Option Ordering) → partial_ordering_then (partial_ordering_then (Some a) q) r ≡ partial_ordering_then (Some a) (partial_ordering_then q r)
regrouped Less q r = refl
regrouped Equal q r = refl
regrouped Greater q r = refl

-- a number decides
by_number : (a b : ℕ) (r : Bool) → decided (nat_cmp a b) r ≡ smaller a b r
by_number a b r = go (nat_cmp a b) (ranks a b)
  where
    go : (p : Ordering) → MatchOrdering p (a < b) (a ≡ b) (b < a) → decided p r ≡ smaller a b r
    go Less l = sym (smaller_lt a b r l)
    go Equal e = sym (smaller_eq a b r e)
    go Greater l = sym (smaller_gt a b r l)

by_last : (a b : ℕ) → is_lt (nat_cmp a b) ≡ nat_lt a b
by_last a b = go (nat_lt a b) (nat_eq a b)
  where
    go : (t u : Bool) → is_lt (cond t Less (cond u Equal Greater)) ≡ t
    go true u = refl
    go false true = refl
    go false false = refl

-- being no more than 0 comes first
by_none : (a b : ℕ) (r : Bool) → decided (bool_cmp (not (nat_eq a 0)) (not (nat_eq b 0))) r ≡ smaller (late (eqb a 0)) (late (eqb b 0)) r
unfolding late
by_none a b r = go (eqb a 0) (eqb b 0)
  where
    go : (t u : Bool) → decided (bool_cmp (not t) (not u)) r ≡ smaller (late t) (late u) r
    go true true = sym (smaller_eq 0 0 r refl)
    go true false = sym (smaller_lt 0 1 r (omega arith))
    go false true = sym (smaller_gt 1 0 r (omega arith))
    go false false = sym (smaller_eq 1 1 r refl)

-- the two items' keys
pub by_keys : (weights : List Weight) (bound : ℕ) (x y : Item) (a b : ℕ) → a ≡ free_count weights bound x.node → b ≡ free_count weights bound y.node
    → is_some_and is_lt (partial_ordering_then (partial_ordering_then (partial_ordering_then (partial_ordering_then (Some (bool_cmp (not (nat_eq a 0)) (not (nat_eq b 0)))) (Some (nat_cmp b a)))
    (Some (nat_cmp (weight_at weights x.node).size (weight_at weights y.node).size))) (Some (nat_cmp x.node y.node))) (Some (nat_cmp x.reg.0 y.reg.0)))
    ≡ goes_first weights bound x y
unfolding goes_first
by_keys weights bound x y a b e f = rw (e, f) (simp (regrouped, first, by_none, by_number, by_last))
