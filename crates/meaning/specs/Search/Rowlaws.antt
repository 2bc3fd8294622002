-- Laws of rows, registers and numbered children. Assumes nothing.
use Rattle.std.specs.Prelude.{ℕ, suc, ◌+◌, ◌<◌, ◌≡◌, refl, List, [], ◌∷◌, ◌++◌, map, length, Option, None, Some}
use Rattle.std.proofs.Common.{sym, ap, ◌∙◌, length-append, eq-eqb, ne_eqb, arith}
use mathlib.Core.List.Memᴰ.{cast as mem-cast, head, tail}
use mathlib.Core.List.{Memᴰ as Mem}
use Rattle.std.proofs.Math.Seq.{get_or-append_seam, append_snoc}
use Rattle.std.proofs.Math.Nat.{suc_inj}
use Rattle.meaning.specs.Lists.{All, nil, cons, NoDup, more, mem_map, all_map, map_same}
use Rattle.meaning.specs.Instance.{all_some}
use Rattle.meaning.specs.Program.{Held, vars, row, asg, at, reg}
use Rattle.meaning.specs.Compiler.{item, number}

-- the row of a file gives each variable its register's class
pub asg_row : (H : List Held) (ρ : List ℕ) (b : Held) → NoDup (vars H) → Mem b H → asg (vars H) (row H ρ) b.var ≡ at ρ b.reg
unfolding vars row asg
asg_row [] ρ b d m = elim m [ ]
asg_row (h ∷ H) ρ b (more n d) (head e) = rw (e, eq-eqb h.var h.var refl)
asg_row (h ∷ H) ρ b (more n d) (tail m) = rw (ne_eqb h.var b.var (λ e. n (mem-cast e (mem_map (λ x. x.var) m)))) (asg_row H ρ b d m)

-- a row of the right width is read back
pub row_asg : (us w : List ℕ) → NoDup us → length w ≡ length us → map (asg us w) us ≡ w
unfolding asg
row_asg [] [] d e = refl
row_asg [] (x ∷ w) d e = absurd (omega arith)
row_asg (u ∷ us) [] d e = absurd (omega arith)
row_asg (u ∷ us) (x ∷ w) (more n d) e =
    let first : asg (u ∷ us) (x ∷ w) u ≡ x = rw (eq-eqb u u refl) in
    let rest : map (asg (u ∷ us) (x ∷ w)) us ≡ map (asg us w) us = map_same (asg (u ∷ us) (x ∷ w)) (asg us w) us (λ v m. rw (ne_eqb u v (λ h. n (mem-cast h m)))) in
    cc (row_asg us w d (suc_inj e))

-- where the variables have their registers' classes, their values are the row
pub row_of : (H : List Held) (ρ : List ℕ) (σ : ℕ → ℕ) → All (λ b. σ b.var ≡ at ρ b.reg) H → row H ρ ≡ map σ (vars H)
unfolding vars row
row_of [] ρ σ nil = refl
row_of (b ∷ H) ρ σ (cons h t) = cc (row_of H ρ σ t)

-- all children have an instance
pub some_all : (os : List (Option ℕ)) (k : List ℕ → Option ℕ) (c : ℕ) → all_some os k ≡ Some c → (ks : List ℕ) × (os ≡ map Some ks) × (k ks ≡ Some c)
unfolding all_some
some_all [] k c h = ([], refl, h)
some_all (None ∷ r) k c h = absurd (let z : ◌≡◌ {A = ℕ} 0 1 = cc in omega arith)
some_all (Some x ∷ r) k c h = let (ks, e, f) = some_all r (λ cs. k (x ∷ cs)) c h in (x ∷ ks, ap (λ l. Some x ∷ l) e, f)

pub all_some_lem : (ks : List ℕ) (k : List ℕ → Option ℕ) → all_some (map Some ks) k ≡ k ks
unfolding all_some
all_some_lem [] k = refl
all_some_lem (x ∷ ks) k = all_some_lem ks (λ cs. k (x ∷ cs))

pub somes : (a b : List ℕ) → map Some a ≡ map Some b → a ≡ b
somes [] [] e = refl
somes [] (y ∷ b) e = cc
somes (x ∷ a) [] e = cc
somes (x ∷ a) (y ∷ b) e = let f : map Some a ≡ map Some b = cc in let h : x ≡ y = cc in cc (somes a b f)

pub somes_length : (f : ℕ → Option ℕ) (cs ks : List ℕ) → map f cs ≡ map Some ks → length ks ≡ length cs
somes_length f [] [] e = refl
somes_length f [] (y ∷ b) e = cc
somes_length f (x ∷ a) [] e = cc
somes_length f (x ∷ a) (y ∷ b) e = let h : map f a ≡ map Some b = cc in ap suc (somes_length f a b h)

-- numbered children have the instances that follow in the registers
pub numbered : (f : ℕ → Option ℕ) (cs ks ρ τ : List ℕ) (k : ℕ) → length ρ ≡ k → τ ≡ ρ ++ ks → length ks ≡ length cs
    → All (λ x. f x.node ≡ Some (at τ x.reg)) (number k cs) → map f cs ≡ map Some ks
unfolding number
numbered f [] [] ρ τ k l e s a = refl
numbered f [] (y ∷ ks) ρ τ k l e s a = absurd (omega arith)
numbered f (c ∷ cs) [] ρ τ k l e s a = absurd (omega arith)
numbered f (c ∷ cs) (y ∷ ks) ρ τ k l e s (cons h a) =
    let here : at τ (reg k) ≡ y = rw (e, ← l) (get_or-append_seam ρ y ks 0) in
    let rest : map f cs ≡ map Some ks = numbered f cs ks (ρ ++ (y ∷ [])) τ (suc k) (rw length-append (omega arith)) (e ∙ sym (append_snoc ρ y ks)) (suc_inj s) a in
    cc

pub to_numbered : (f : ℕ → Option ℕ) (cs ks ρ τ : List ℕ) (k : ℕ) → length ρ ≡ k → τ ≡ ρ ++ ks
    → map f cs ≡ map Some ks → All (λ x. f x.node ≡ Some (at τ x.reg)) (number k cs)
unfolding number
to_numbered f [] ks ρ τ k l e s = nil
to_numbered f (c ∷ cs) [] ρ τ k l e s = absurd (let z : ◌≡◌ {A = ℕ} 0 1 = cc in omega arith)
to_numbered f (c ∷ cs) (y ∷ ks) ρ τ k l e s =
    let here : at τ (reg k) ≡ y = rw (e, ← l) (get_or-append_seam ρ y ks 0) in
    let rest : map f cs ≡ map Some ks = cc in
    cons {x = item c (reg k)} (cc) (to_numbered f cs ks (ρ ++ (y ∷ [])) τ (suc k) (rw length-append (omega arith)) (e ∙ sym (append_snoc ρ y ks)) rest)

-- their registers are below the number after them
pub numbered_below : (cs : List ℕ) (k : ℕ) → All (λ x. x.reg.0 < k + length cs) (number k cs)
unfolding number
numbered_below [] k = nil
numbered_below (c ∷ cs) k = cons {x = item c (reg k)} (omega arith) (all_map (λ x h. omega arith) (numbered_below cs (suc k)))
