-- What is bound, and when a node is ground. Assumes nothing.
use Rattle.std.specs.Prelude.{ℕ, ◌≡◌, refl, List, [], ◌∷◌, ◌⊎◌, Bool, true, false, cond, eqb, Option, None, Some}
use Rattle.std.proofs.Common.{sym, ap, ◌∙◌, inl, inr, eqb-true, arith}
use mathlib.Core.List.Memᴰ.{cases_cons, cast as mem-cast, head, not-nil, tail}
use mathlib.Core.List.{Memᴰ as Mem}
use Rattle.std.proofs.lemmas.Bool.{eqb-false}
use Rattle.meaning.specs.declared.Reg.{Reg}
use Rattle.meaning.specs.Lists.{mem_map}
use Rattle.meaning.specs.Pattern.{Pattern, free}
use Rattle.meaning.specs.Program.{Held, held, vars}
use Rattle.meaning.specs.Compiler.{reg_of, more_if_none, unbound_in, unbound, is_ground}

-- a register that is told is bound, and none means not bound
pub reg_mem : (B : List Held) (v : ℕ) (j : Reg) → reg_of B v ≡ Some j → Mem (held v j) B
unfolding reg_of
reg_mem [] v j e = absurd (let z : ◌≡◌ {A = ℕ} 0 1 = cc in omega arith)
reg_mem (b ∷ B) v j e = go (eqb b.var v) refl e (λ r. reg_mem B v j r)
  where
    go : (t : Bool) → eqb b.var v ≡ t → cond t (Some b.reg) (reg_of B v) ≡ Some j → (reg_of B v ≡ Some j → Mem (held v j) B) → Mem (held v j) (b ∷ B)
    go true h e f = let r : j ≡ b.reg = cc in head (ap (λ z. held z j) (sym (eqb-true b.var v h)) ∙ ap (λ z. held b.var z) r)
    go false h e f = tail (f e)

pub reg_none : (B : List Held) (v : ℕ) → reg_of B v ≡ None → Mem v (vars B) → ⊥
unfolding reg_of vars
reg_none [] v e m = not-nil m
reg_none (b ∷ B) v e m = go (eqb b.var v) refl e (cases_cons m) (λ r k. reg_none B v r k)
  where
    go : (t : Bool) → eqb b.var v ≡ t → cond t (Some b.reg) (reg_of B v) ≡ None → (v ≡ b.var) ⊎ Mem v (vars B) → (reg_of B v ≡ None → Mem v (vars B) → ⊥) → ⊥
    go true h e m f = let z : ◌≡◌ {A = ℕ} 0 1 = cc in omega arith
    go false h e (inl s) f = eqb-false b.var v h (sym s)
    go false h e (inr k) f = f e k

-- a ground node has no variable unbound
bound_all : (B : List Held) (l : List ℕ) → unbound_in B l ≡ 0 → (v : ℕ) → Mem v l → Mem v (vars B)
unfolding unbound_in more_if_none vars
bound_all B [] e v m = elim m [ ]
bound_all B (u ∷ l) e v m = go (reg_of B u) refl e (cases_cons m) (λ h k. bound_all B l h v k)
  where
    go : (s : Option Reg) → reg_of B u ≡ s → more_if_none s (unbound_in B l) ≡ 0 → (v ≡ u) ⊎ Mem v l → (unbound_in B l ≡ 0 → Mem v l → Mem v (vars B)) → Mem v (vars B)
    go None h e m f = absurd (omega arith)
    go (Some j) h e (inl s) f = mem-cast s (mem_map (λ b. b.var) (reg_mem B u j h))
    go (Some j) h e (inr k) f = f e k

pub ground_all : (p : Pattern) (B : List Held) (n : ℕ) → is_ground p B n ≡ true → (v : ℕ) → Mem v (free p n) → Mem v (vars B)
unfolding is_ground unbound
ground_all p B n e = bound_all B (free p n) (eqb-true _ _ e)

pub mem_var : {B : List Held} {b : Held} → Mem b B → Mem b.var (vars B)
unfolding vars
mem_var m = mem_map (λ b. b.var) m
