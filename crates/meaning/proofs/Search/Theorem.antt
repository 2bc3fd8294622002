-- The rows of a pattern in a class are the assignments under which its root's instance is that class, each once. Assumes nothing.
use Rattle.std.proofs.Common.{ℕ, ◌≡◌, refl, List, [], ◌∷◌, ◌↔◌, Bool, length, sym, arith, Some}
use mathlib.Core.List.Memᴰ.{cast as mem-cast, head}
use mathlib.Core.List.{Memᴰ as Mem}
use Rattle.meaning.specs.Lists.{nil, cons, NoDup, empty, all_at}
use Rattle.meaning.specs.Graph.{Graph, ids, WellFormed}
use Rattle.meaning.specs.Pattern.{Pattern, Ordered, root}
use Rattle.meaning.specs.Instance.{inst}
use Rattle.meaning.specs.Program.{Held, vars, asg, at, reg}
use Rattle.meaning.specs.Compiler.{Item, item, compile_by, compile, ahead}
use Rattle.meaning.specs.Matching.{run_of, matches}
use Rattle.meaning.specs.Search.Listing.{Lists, shift}
use Rattle.meaning.specs.Search.Order.{apart}
use Rattle.meaning.specs.Search.Solve.{Known}
use Rattle.meaning.specs.Search.Rowlaws.{row_asg}
use Rattle.meaning.proofs.Search.Central.{central}
use Rattle.meaning.proofs.Laws.Lookup.{reads}
use Rattle.meaning.specs.Laws.Instances.{means}
use Rattle.meaning.specs.Search.Compiled.{compile_right}

pub no_vars : NoDup (vars [])
unfolding vars
no_vars = empty

-- for any choice of the next item
pub matched : {g : Graph} {p : Pattern} → WellFormed g → Ordered p → (before : List Held → Item → Item → Bool) (c : ℕ) → Mem c (ids g)
    → Lists (Known g) (vars (compile_by before p).vars) (run_of g p (compile_by before p) c) (λ σ. inst g p σ (root p) ≡ Some c)
unfolding run_of
matched {g} {p} w o before c m = shift
    (central (reads g w) (means o g) (compile_right o before) (c ∷ []) (record { long = refl; known = cons m nil })
    (record { items = cons {x = item (root p) (reg 0)} (omega arith) nil; binds = nil; apart = no_vars }))
    (λ σ s. all_at {P = λ x. inst g p σ x.node ≡ Some (at (c ∷ []) x.reg)} {x = item (root p) (reg 0)} s.items (head refl))
    (λ σ e. record { roots = nil; items = cons {x = item (root p) (reg 0)} e nil; binds = nil })

-- a row of the right width is there exactly when it is an assignment with the property
pub exact : {K : ℕ → Type 0} {us : List ℕ} {L : List (List ℕ)} {S : (ℕ → ℕ) → Type 0} → Lists K us L S → NoDup us → (w : List ℕ) → length w ≡ length us → Mem w L ↔ S (asg us w)
exact {us} h d w e = (λ m. h.sound w m, λ s. mem-cast (sym (row_asg us w d e)) (h.complete (asg us w) s))

pub vars_once : {p : Pattern} → Ordered p → NoDup (vars (compile p).vars)
unfolding compile
vars_once {p} o = apart (compile_right o (ahead p)) no_vars

-- DEMAND 2
pub rows_right : {g : Graph} {p : Pattern} → WellFormed g → Ordered p → (c : ℕ) → Mem c (ids g)
    → Lists (Known g) (vars (compile p).vars) (matches g p c) (λ σ. inst g p σ (root p) ≡ Some c)
unfolding matches compile
rows_right {p = p} w o c m = matched w o (ahead p) c m
