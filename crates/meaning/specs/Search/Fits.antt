-- Each step keeps its registers inside the file. Assumes nothing.
use Rattle.std.specs.Prelude.{ℕ, zero, suc, ◌+◌, ◌<◌, ◌≡◌, List, [], ◌∷◌, ◌++◌, length}
use Rattle.std.proofs.Common.{ap, ◌∙◌, length-append, arith}
use mathlib.Core.List.{Memᴰ as Mem}
use Rattle.std.proofs.Math.ListN.{get_or-append}
use Rattle.meaning.specs.declared.Reg.{Reg}
use Rattle.meaning.specs.Lists.{All, nil, cons, Took, took_all, all_map, all_append, all_at, all_of}
use Rattle.meaning.specs.Graph.{Graph, ids}
use Rattle.meaning.specs.Program.{Held, held, vars, at, reg}
use Rattle.meaning.specs.Compiler.{Item, item, number}
use Rattle.meaning.specs.Search.Order.{vars_more}
use Rattle.meaning.specs.Search.Solve.{Fit, File}
use Rattle.meaning.specs.Search.Rowlaws.{numbered_below}

pub fit_less : {x : Item} {l r : List Item} {B : List Held} {k : ℕ} → Took x l r → Fit l B k → Fit r B k
fit_less t f = record { items = (took_all t f.items).1; binds = f.binds; apart = f.apart }

pub fit_mix : {l r : List Item} {B : List Held} {k : ℕ} → ((x : Item) → Mem x r → Mem x l) → Fit l B k → Fit r B k
fit_mix {r} {k} f fit = record { items = all_of r (λ x m. all_at {P = λ x. x.reg.0 < k} fit.items (f x m)); binds = fit.binds; apart = fit.apart }

pub fit_new : {x : Item} {l r : List Item} {B : List Held} {k : ℕ} (v : ℕ) → Took x l r → (Mem v (vars B) → ⊥) → Fit l B k → Fit r (B ++ (held v x.reg ∷ [])) k
fit_new {x} {B} v t n f = let (h, a) = took_all t f.items in
    record { items = a; binds = all_append f.binds (cons {x = held v x.reg} h nil); apart = vars_more B v x.reg n f.apart }

pub fit_spread : {x : Item} {l r : List Item} {B : List Held} {k : ℕ} (cs : List ℕ) → Took x l r → Fit l B k → Fit (number k cs ++ r) B (k + length cs)
fit_spread {k} cs t f = record {
  items = all_append (numbered_below cs k) (all_map (λ x h. omega arith) (took_all t f.items).1);
  binds = all_map (λ b h. omega arith) f.binds;
  apart = f.apart;
}

pub fit_join : {B : List Held} {k : ℕ} (n v : ℕ) (j : Reg) → Mem (held v j) B → Fit [] B k → Fit (item n j ∷ []) B k
fit_join {B} {k} n v j m f = record { items = cons {x = item n j} (all_at {P = λ b. b.reg.0 < k} f.binds m) nil; binds = f.binds; apart = f.apart }

pub fit_scan : {B : List Held} {k : ℕ} (n b : ℕ) → Fit [] B k → Fit (item n (reg k) ∷ item b (reg k) ∷ []) B (suc k)
fit_scan {k} n b f = record {
  items = cons {x = item n (reg k)} (omega arith) (cons {x = item b (reg k)} (omega arith) nil);
  binds = all_map (λ b h. omega arith) f.binds;
  apart = f.apart;
}

-- registers already there are the same in a longer file
pub same_at : (ρ ks : List ℕ) (k : ℕ) (r : Reg) → length ρ ≡ k → r.0 < k → at (ρ ++ ks) r ≡ at ρ r
same_at ρ ks k r l h = get_or-append ρ ks 0 r.0 (omega arith)

pub file_more : {g : Graph} {k : ℕ} {ρ : List ℕ} (ks : List ℕ) → File g k ρ → All (λ c. Mem c (ids g)) ks → File g (k + length ks) (ρ ++ ks)
file_more {ρ} ks f a = record { long = length-append ρ ks ∙ ap (λ n. n + length ks) f.long; known = all_append f.known a }

-- a register of a file holds a class
pub class_at_lem : (g : Graph) (ρ : List ℕ) (j : Reg) → All (λ c. Mem c (ids g)) ρ → j.0 < length ρ → Mem (at ρ j) (ids g)
class_at_lem g ρ j a h = go ρ j.0 a h
  where
    go : (ρ : List ℕ) (j : ℕ) → All (λ c. Mem c (ids g)) ρ → j < length ρ → Mem (at ρ (reg j)) (ids g)
    go [] j a h = absurd (omega arith)
    go (c ∷ ρ) zero (cons m a) h = m
    go (c ∷ ρ) (suc j) (cons m a) h = go ρ j a (omega arith)
