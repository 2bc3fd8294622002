-- Every program that some order of the work items may give. Assumes nothing.
use Rattle.std.specs.Prelude.{ℕ, suc, ◌+◌, ◌<◌, ◌≡◌, List, [], ◌∷◌, ◌++◌, length}
use Rattle.std.proofs.Common.{sym}
use mathlib.Core.List.Memᴰ.{append_left as mem-left, cast as mem-cast, eq_of_singleton as only}
use mathlib.Core.List.{Memᴰ as Mem}
use Rattle.meaning.specs.declared.Reg.{Reg}
use Rattle.meaning.specs.Lists.{NoDup, Took, map_append, nodup_append, nodup_one}
use Rattle.meaning.specs.Pattern.{PNode, var, op, Pattern, node_of, kids_of, free}
use Rattle.meaning.specs.Program.{Instr, bind, compare, lookat, scan, reg, Held, held, vars}
use Rattle.meaning.specs.Compiler.{Item, item, number, Root}

-- n is a node of p, and it is x
pub record Stands (p : Pattern) (n : ℕ) (x : PNode) : Type 0 where
  pub inside : n < length p
  pub same : node_of p n ≡ x

pub stands : {p : Pattern} {n : ℕ} (x : PNode) → n < length p → node_of p n ≡ x → Stands p n x
stands x h e = record { inside = h; same = e }

pub kid_of : {x : PNode} {f c : ℕ} {cs : List ℕ} → x ≡ op f cs → Mem c cs → Mem c (kids_of x)
unfolding kids_of
kid_of e m = rw e m

-- roots to come, items, variables bound, registers so far; the instructions to come, and the variables at the end
pub data Compiles (p : Pattern) : List Root → List Item → List Held → ℕ → List Instr → List Held → Type 0 where
  done : {B : List Held} {k : ℕ} → Compiles p [] [] B k [] B
  new : {R : List Root} {x : Item} {v : ℕ} {l r : List Item} {B H : List Held} {k : ℕ} {is : List Instr}
      → Stands p x.node (var v) → Took x l r → (Mem v (vars B) → ⊥)
      → Compiles p R r (B ++ (held v x.reg ∷ [])) k is H → Compiles p R l B k is H
  again : {R : List Root} {x : Item} {v : ℕ} {j : Reg} {l r : List Item} {B H : List Held} {k : ℕ} {is : List Instr}
      → Stands p x.node (var v) → Took x l r → Mem (held v j) B
      → Compiles p R r B k is H → Compiles p R l B k (compare (length R) x.reg j ∷ is) H
  same : {R : List Root} {x : Item} {v : ℕ} {l r : List Item} {B H : List Held} {k : ℕ} {is : List Instr}
      → Stands p x.node (var v) → Took x l r → Mem (held v x.reg) B
      → Compiles p R r B k is H → Compiles p R l B k is H
  look : {R : List Root} {x : Item} {l r : List Item} {B H : List Held} {k : ℕ} {is : List Instr}
      → Took x l r → ((v : ℕ) → Mem v (free p x.node) → Mem v (vars B))
      → Compiles p R r B k is H → Compiles p R l B k (lookat (length R) x.node x.reg ∷ is) H
  spread : {R : List Root} {x : Item} {o : ℕ} {cs : List ℕ} {l r : List Item} {B H : List Held} {k : ℕ} {is : List Instr}
      → Stands p x.node (op o cs) → Took x l r
      → Compiles p R (number k cs ++ r) B (k + length cs) is H → Compiles p R l B k (bind (length R) x.node o (length cs) x.reg ∷ is) H
  mix : {R : List Root} {l r : List Item} {B H : List Held} {k : ℕ} {is : List Instr}
      → ((x : Item) → Mem x l → Mem x r) → ((x : Item) → Mem x r → Mem x l)
      → Compiles p R r B k is H → Compiles p R l B k is H
  join : {q : Root} {R : List Root} {v : ℕ} {j : Reg} {B H : List Held} {k : ℕ} {is : List Instr}
      → Stands p q.binder (var v) → Mem (held v j) B
      → Compiles p R (item q.top j ∷ []) B k is H → Compiles p (q ∷ R) [] B k is H
  scans : {q : Root} {R : List Root} {B H : List Held} {k : ℕ} {is : List Instr}
      → Compiles p R (item q.top (reg k) ∷ item q.binder (reg k) ∷ []) B (suc k) is H → Compiles p (q ∷ R) [] B k (scan (length R) ∷ is) H

pub vars_more : (B : List Held) (v : ℕ) (r : Reg) → (Mem v (vars B) → ⊥) → NoDup (vars B) → NoDup (vars (B ++ (held v r ∷ [])))
unfolding vars
vars_more B v r n a = rw map_append (nodup_append a nodup_one (λ u m o. n (mem-cast (sym (only o)) m)))

module _ {p : Pattern} where
  -- what is bound stays bound
  pub kept : {R : List Root} {l : List Item} {B H : List Held} {k : ℕ} {is : List Instr} {b : Held} → Compiles p R l B k is H → Mem b B → Mem b H
  kept done m = m
  kept (new s t n d) m = kept d (mem-left _ m)
  kept (again s t j d) m = kept d m
  kept (same s t j d) m = kept d m
  kept (look t f d) m = kept d m
  kept (spread s t d) m = kept d m
  kept (mix f h d) m = kept d m
  kept (join s j d) m = kept d m
  kept (scans d) m = kept d m

  -- no variable is bound twice
  pub apart : {R : List Root} {l : List Item} {B H : List Held} {k : ℕ} {is : List Instr} → Compiles p R l B k is H → NoDup (vars B) → NoDup (vars H)
  apart done a = a
  apart (new {B = B} s t n d) a = apart d (vars_more B _ _ n a)
  apart (again s t j d) a = apart d a
  apart (same s t j d) a = apart d a
  apart (look t f d) a = apart d a
  apart (spread s t d) a = apart d a
  apart (mix f h d) a = apart d a
  apart (join s j d) a = apart d a
  apart (scans d) a = apart d a
