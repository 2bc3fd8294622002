-- Nodes met one after another. Assumes nothing.
use Rattle.std.proofs.Common.{ℕ, suc, ◌+◌, ◌-◌, ◌<◌, ◌≤◌, ◌≡◌, refl, ap, ◌∙◌, List, [], ◌∷◌, ◌++◌, length, take, get_or, length-append, length-take, add-one, add-zero, Bool, true, false, cond, eqb, Option, None, Some, arith}
use Rattle.std.proofs.lemmas.List.{length-map}
use Rattle.std.proofs.Math.Seq.{take-suc}
use Rattle.meaning.specs.declared.Reg.{Reg}
use Rattle.meaning.specs.PatternWords.{kind_at, number_at}
use Rattle.meaning.specs.Program.{reg}
use Rattle.meaning.specs.Compiler.{item, reg_of}
use Rattle.compiler.specs.declared.Compiler.{Compiler}
use Rattle.compiler.specs.Lists.{held_in}
use Rattle.compiler.specs.Local.{Local, local, view, Room, add_var, add_todo, add_all}

-- at most n more of each
pub record Within (n : ℕ) (l m : Local) : Type 0 where
  pub code : length m.code ≤ length l.code + n
  pub vars : length m.vars ≤ length l.vars + n
  pub items : length m.items ≤ length l.items + n

module _ (w : List ℕ) (place : ℕ) where
  pub add_within : (node : ℕ) (r : Reg) (l : Local) → Within 1 l (add_todo w place node r l)
  unfolding add_todo add_var
  add_within node r l = go (eqb (kind_at w node) 0) (reg_of l.vars (number_at w node))
    where
      go : (b : Bool) (s : Option Reg) → Within 1 l (cond b (add_var place node (number_at w node) r s l) (local l.code l.vars (l.items ++ (item node r ∷ [])) l.next l.bound))
      go false s = record { code = omega arith; vars = omega arith; items = rw length-append (omega arith) }
      go true None = record { code = omega arith; vars = rw length-append (omega arith); items = omega arith }
      go true (Some j) = record { code = rw length-append (omega arith); vars = omega arith; items = omega arith }

  -- one more, at the end
  pub add_last : (k : ℕ) (cs : List ℕ) (c : ℕ) (l : Local) → add_all w place k (cs ++ (c ∷ [])) l ≡ add_todo w place c (reg (k + length cs)) (add_all w place k cs l)
  unfolding add_all
  add_last k [] c l = rw add-zero
  add_last k (b ∷ cs) c l = let e : suc k + length cs ≡ k + suc (length cs) = omega arith in add_last (suc k) cs c (add_todo w place b (reg k) l) ∙ ap (λ n. add_todo w place c (reg n) (add_all w place (suc k) cs (add_todo w place b (reg k) l))) e

  pub add_none : (k : ℕ) (cs : List ℕ) (l : Local) → l ≡ add_all w place k (take 0 cs) l
  unfolding add_all
  add_none k cs l = refl

  pub add_next : (k : ℕ) (cs : List ℕ) (x : ℕ) (l : Local) → x < length cs → add_all w place k (take (x + 1) cs) l ≡ add_todo w place (get_or cs x 0) (reg (k + x)) (add_all w place k (take x cs) l)
  add_next k cs x l h =
      let n : length (take x cs) ≡ x = rw length-take (omega arith) in
      rw (add-one, take-suc cs x 0 h, add_last, n)

-- one met, one room less
pub room_less : (w : List ℕ) (place node : ℕ) (r : Reg) (c d : Compiler) (n x : ℕ) → view d ≡ add_todo w place node r (view c) → x < n → Room c (n - x) → Room d (n - (x + 1))
room_less w place node r c d n x e h m =
    let g : Within 1 (view c) (view d) = rw e (add_within w place node r (view c)) in
    let a : length (held_in d.code) ≤ length (held_in c.code) + 1 = simp length-map at g.code in
    let b : length (held_in d.vars) ≤ length (held_in c.vars) + 1 = simp length-map at g.vars in
    let f : length (held_in d.items) ≤ length (held_in c.items) + 1 = simp length-map at g.items in
    let i = m.code in let j = m.vars in let k = m.items in
    record { code = omega arith; vars = omega arith; items = omega arith }
