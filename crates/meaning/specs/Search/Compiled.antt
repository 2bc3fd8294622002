-- The compiler's program is one of those that some order gives, whichever item it takes next. Assumes nothing.
use Rattle.std.specs.Prelude.{ℕ, zero, suc, ◌+◌, ◌-◌, ◌<◌, ◌≤◌, ◌≡◌, Bool, length, None}
use Rattle.std.proofs.Math.Path.{refl}
use Rattle.std.proofs.Common.{sym, ap, le_trans}
use mathlib.Core.List.{List, [], ◌∷◌, ◌++◌}
use native.Mathlib.Omega.{arith}
use Rattle.meaning.specs.Lists.{All, nil, cons}
use Rattle.meaning.specs.Pattern.{var, Pattern, Ordered, root, occ, node_of}
use Rattle.meaning.specs.Program.{Held, reg}
use Rattle.meaning.specs.Compiler.{Item, item, Root, State, state, step_of, reg_of, go, Prog, prog, compile_by, root_load, enter, compile_from}
use Rattle.meaning.specs.Search.Order.{Stands, Compiles, done}
use Rattle.meaning.specs.Search.Steps.{Sane, stepped, Entered, enter_stepped}
use Rattle.meaning.specs.Search.Measure.{load, meets, waits, measure, occ_pos}

-- no steps left: nothing left to do
idle : {p : Pattern} (o : Ordered p) (R : List Root) (q t : List Item) (B : List Held) (k : ℕ) → measure p R q t ≤ 0 → Sane p R q t → Compiles p R (q ++ t) B k [] B
unfolding measure load root_load meets waits
idle o [] [] [] B k h sane = done
idle o (r ∷ R) [] [] B k h sane = absurd (omega arith)
idle {p} o R [] (x ∷ t) B k h sane = absurd (never sane.todo)
  where
    never : All (λ (x : Item). x.node < length p) (x ∷ t) → ⊥
    never (cons i a) = let j = occ_pos o x.node i in omega arith
idle {p} o R (x ∷ q) t B k h sane = absurd (never sane.meet)
  where
    never : All (λ (x : Item). x.node < length p) (x ∷ q) → ⊥
    never (cons i a) = let j = occ_pos o x.node i in omega arith

pub go_right : {p : Pattern} (o : Ordered p) (before : List Held → Item → Item → Bool) (f : ℕ) (s : State) → measure p s.roots s.meet s.todo ≤ f
    → Sane p s.roots s.meet s.todo → Compiles p s.roots (s.meet ++ s.todo) s.binds s.next (go p before f s).code (go p before f s).vars
unfolding go
go_right o before zero s h sane = idle o s.roots s.meet s.todo s.binds s.next h sane
go_right {p} o before (suc f) s h sane =
    let t = stepped o before s.roots s.meet s.todo s.binds s.next sane in
    let l = t.less in
    t.leads _ _ (go_right o before f (step_of p before s.roots s.meet s.todo s.binds s.next).to (omega arith) t.sane)

-- a single pattern, its root at register 0
pub compile_right : {p : Pattern} (o : Ordered p) (before : List Held → Item → Item → Bool)
    → Compiles p [] (item (root p) (reg 0) ∷ []) [] 1 (compile_by before p).code (compile_by before p).vars
unfolding compile_by
compile_right {p} o before =
    let h = o.rooted in
    go_right o before (occ p (root p) + occ p (root p)) (state [] (item (root p) (reg 0) ∷ []) [] [] 1) (enough p (root p))
    (record { roots = nil; meet = cons {x = item (root p) (reg 0)} (omega arith) nil; todo = nil })
  where
    enough : (p : Pattern) (n : ℕ) → measure p [] (item n (reg 0) ∷ []) [] ≤ occ p n + occ p n
    enough p n = unfold measure load root_load meets in omega arith

-- a multipattern, its first root and binder at register 0
pub compile_roots_right : {p : Pattern} (o : Ordered p) (before : List Held → Item → Item → Bool) (q : Root) (R : List Root) (v : ℕ) → Stands p q.binder (var v) → q.top < length p
    → All (λ (r : Root). (v : ℕ) × Stands p r.binder (var v) × (r.top < length p)) R
    → Compiles p R (item q.top (reg 0) ∷ item q.binder (reg 0) ∷ []) [] 1 (compile_from before p (var v) q R).code (compile_from before p (var v) q R).vars
unfolding compile_from
compile_roots_right {p} o before q R v st h a =
    let e = first in let l = e.less in
    e.leads _ _ (go_right o before (root_load p (q ∷ R)) (enter p v q R [] 0).to (le_trans l (enough p q R)) e.sane)
  where
    nothing_bound : reg_of [] v ≡ None
    nothing_bound = unfold reg_of in refl

    first : Entered p q R [] 0 (enter p v q R [] 0)
    first = unfold enter in enter_stepped o (node_of p q.top) v q R [] 0 refl h st nothing_bound a

    enough : (p : Pattern) (q : Root) (R : List Root) → measure p (q ∷ R) [] [] - 1 ≤ root_load p (q ∷ R)
    enough p q R = unfold measure load in omega arith

-- from a state with nothing to do no step changes anything
pub go_idle : (p : Pattern) (before : List Held → Item → Item → Bool) (f : ℕ) (B : List Held) (k : ℕ) → go p before f (state [] [] [] B k) ≡ prog [] B
unfolding go step_of
go_idle p before zero B k = refl
go_idle p before (suc f) B k = rw (go_idle p before f B k)

go_empty : {p : Pattern} (o : Ordered p) (before : List Held → Item → Item → Bool) (f : ℕ) (R : List Root) (q t : List Item) (B : List Held) (k : ℕ)
    → measure p R q t ≤ 0 → Sane p R q t → go p before f (state R q t B k) ≡ prog [] B
unfolding measure load root_load meets waits
go_empty {p} o before f [] [] [] B k h sane = go_idle p before f B k
go_empty o before f (r ∷ R) [] [] B k h sane = absurd (omega arith)
go_empty {p} o before f R [] (x ∷ t) B k h sane = absurd (never sane.todo)
  where
    never : All (λ (x : Item). x.node < length p) (x ∷ t) → ⊥
    never (cons i a) = let j = occ_pos o x.node i in omega arith
go_empty {p} o before f R (x ∷ q) t B k h sane = absurd (never sane.meet)
  where
    never : All (λ (x : Item). x.node < length p) (x ∷ q) → ⊥
    never (cons i a) = let j = occ_pos o x.node i in omega arith

-- any number of steps that is enough gives the same program
pub go_enough : {p : Pattern} (o : Ordered p) (before : List Held → Item → Item → Bool) (f h : ℕ) (s : State) → measure p s.roots s.meet s.todo ≤ f → measure p s.roots s.meet s.todo ≤ h
    → Sane p s.roots s.meet s.todo → go p before f s ≡ go p before h s
unfolding go
go_enough o before zero h s a b sane = sym (go_empty o before h s.roots s.meet s.todo s.binds s.next a sane)
go_enough o before (suc f) zero s a b sane = go_empty o before (suc f) s.roots s.meet s.todo s.binds s.next b sane
go_enough {p} o before (suc f) (suc h) s a b sane =
    let t = stepped o before s.roots s.meet s.todo s.binds s.next sane in
    let l = t.less in
    let u = step_of p before s.roots s.meet s.todo s.binds s.next in
    ap (λ (r : Prog). prog (u.emits ++ r.code) r.vars) (go_enough o before f h u.to (omega arith) (omega arith) t.sane)
