-- The rows of a program are the assignments that solve the state it was compiled from, each once. Assumes nothing.
use Rattle.std.proofs.Common.{ℕ, ◌+◌, ◌≡◌, true, length, eqb, sym, ◌∙◌, subst, add-one, eqb-true, eq-eqb, List, [], ◌∷◌, ◌++◌}
use Rattle.std.proofs.Math.Path.{refl}
use Rattle.meaning.specs.Tests.{is_class, class_true, class_is}
use Rattle.meaning.specs.Lists.{All, nil, cons, took_all, put_all}
use Rattle.meaning.specs.Graph.{Graph, nodes_of, ids, fits}
use Rattle.meaning.specs.Pattern.{Pattern}
use Rattle.meaning.specs.Instance.{inst}
use Rattle.meaning.specs.Program.{Instr, Held, vars, gives, at, rows, reg}
use Rattle.meaning.specs.Compiler.{Item, item, number, Root}
use Rattle.meaning.specs.Search.Listing.{Lists, shift, guarded, split}
use Rattle.meaning.specs.Search.Order.{Compiles, done, new, again, same, look, spread, mix, join, scans, kept, apart}
use Rattle.meaning.proofs.Laws.Lookup.{Reads}
use Rattle.meaning.specs.Search.Solve.{Means, Solves, Fit, File, Known}
use Rattle.meaning.specs.Search.Fits.{fit_less, fit_mix, fit_new, fit_spread, fit_join, fit_scan, file_more}
use Rattle.meaning.proofs.Search.Moves.{finish, new_up, new_down, again_up, again_down, look_same, fits_long, spread_up, spread_down, spread_same, join_up, join_down, scan_up, scan_down, scan_same, mixed}

-- THE CENTRAL LEMMA: whatever the order of the items, the rows are the assignments that solve the state, each once
module _ {g : Graph} {p : Pattern} (reads : Reads g) (means : Means g p) where
  pub central : {R : List Root} {l : List Item} {B H : List Held} {k : ℕ} {is : List Instr} → Compiles p R l B k is H
      → (ρ : List ℕ) → File g k ρ → Fit l B k → Lists (Known g) (vars H) (rows g p H is ρ) (Solves g p R l B ρ)
  unfolding rows
  central (done {B = B} {k = k}) ρ file fit = finish g p B k ρ file fit
  central (new {v = v} st t n d) ρ file fit = shift (central d ρ file (fit_new v t n fit)) (λ σ s. new_up means ρ t σ v st s) (λ σ s. new_down means ρ t σ v st s)
  central (again {x = x} {v = v} {j = j} st t m d) ρ file fit = shift (guarded (eqb (at ρ x.reg) (at ρ j)) (λ e. central d ρ file (fit_less t fit)))
      (λ σ s. again_up means ρ t σ v j st m (eqb-true _ _ s.0) s.1)
      (λ σ s. let (e, h) = again_down means ρ t σ v j st m s in (eq-eqb _ _ e, h))
  central (same {x = x} {v = v} st t m d) ρ file fit = shift (central d ρ file (fit_less t fit))
      (λ σ s. again_up means ρ t σ v x.reg st m refl s) (λ σ s. (again_down means ρ t σ v x.reg st m s).1)
  central (look {x = x} {B = B} {H = H} t f d) ρ file fit =
      let same_inst : (σ : ℕ → ℕ) → All (λ b. σ b.var ≡ at ρ b.reg) B → inst g p (gives H ρ) x.node ≡ inst g p σ x.node
      = λ σ a. look_same means B H ρ σ x.node (apart d fit.apart) (λ b m. kept d m) f a in
      shift (guarded (is_class (inst g p (gives H ρ) x.node) (at ρ x.reg)) (λ e. central d ρ file (fit_less t fit)))
      (λ σ s. record { roots = s.1.roots; items = put_all t (sym (same_inst σ s.1.binds) ∙ class_true _ _ s.0) s.1.items; binds = s.1.binds })
      (λ σ s. let (h, a) = took_all t s.items in (class_is _ _ (same_inst σ s.binds ∙ h), record { roots = s.roots; items = a; binds = s.binds }))
  central (spread {R = R} {x = x} {o = o} {cs = cs} {r = r} {B = B} {k = k} st t d) ρ file fit =
      split _ (nodes_of g (at ρ x.reg)) (Solves g p R _ B ρ)
      (λ n σ. (fits o (length cs) n ≡ true) × Solves g p R (number k cs ++ r) B (ρ ++ n.kids) σ)
      (reads.once (at ρ x.reg))
      (λ n m. guarded (fits o (length cs) n) (λ e. central d (ρ ++ n.kids)
      (subst (λ a. File g (k + a) (ρ ++ n.kids)) (fits_long o (length cs) n e) (file_more n.kids file (reads.closed n (at ρ x.reg) m)))
      (fit_spread cs t fit)))
      (λ σ n m s. spread_up reads means ρ o cs t file fit st σ n m s.0 s.1)
      (λ σ s. spread_down reads means ρ o cs t file fit st σ s)
      (λ σ a b s u. spread_same reads means ρ o cs t file fit st σ a b s u)
  central (mix up down d) ρ file fit = shift (central d ρ file (fit_mix down fit)) (λ σ s. mixed up s) (λ σ s. mixed down s)
  central (join {q = q} {v = v} {j = j} st m d) ρ file fit = shift (central d ρ file (fit_join q.top v j m fit))
      (λ σ s. join_up means q ρ σ v j file fit st m s) (λ σ s. join_down means q ρ σ v j st m s)
  central (scans {q = q} {R = R} {B = B} {k = k} d) ρ file fit =
      split _ (ids g) (Solves g p (q ∷ R) [] B ρ) (λ c σ. Solves g p R (item q.top (reg k) ∷ item q.binder (reg k) ∷ []) B (ρ ++ (c ∷ [])) σ)
      reads.apart
      (λ c m. central d (ρ ++ (c ∷ [])) (rw (← (add-one k)) (file_more (c ∷ []) file (cons m nil))) (fit_scan q.top q.binder fit))
      (λ σ c m s. scan_up q ρ σ c file fit m s)
      (λ σ s. scan_down q ρ σ file fit s)
      (λ σ a b s u. scan_same q ρ σ a b file s u)
