-- A state run to its end, one step at a time. Assumes nothing.
use Rattle.std.specs.Prelude.{ℕ, suc, ◌≤◌, ◌≡◌, List, [], ◌++◌, Bool}
use Rattle.std.proofs.Common.{sym, ap, ◌∙◌, arith}
use Rattle.meaning.specs.Pattern.{Pattern, Ordered}
use Rattle.meaning.specs.Program.{Held}
use Rattle.meaning.specs.Compiler.{Item, Root, State, state, Step, step_of, go, Prog, prog}
use Rattle.meaning.specs.Search.Measure.{measure}
use Rattle.meaning.specs.Search.Steps.{Sane, Stepped, stepped}
use Rattle.meaning.specs.Search.Compiled.{go_enough, go_idle}

-- as many steps as there are left
unfoldable pub run : Pattern → (List Held → Item → Item → Bool) → State → Prog
run p before s = go p before (measure p s.roots s.meet s.todo) s

-- any number of steps that is enough
pub enough_runs : {p : Pattern} (o : Ordered p) (before : List Held → Item → Item → Bool) (f : ℕ) (s : State) → measure p s.roots s.meet s.todo ≤ f
    → Sane p s.roots s.meet s.todo → go p before f s ≡ run p before s
unfolding run
enough_runs {p} o before f s h sane = go_enough o before f (measure p s.roots s.meet s.todo) s h (omega arith) sane

-- nothing to do
pub run_idle : (p : Pattern) (before : List Held → Item → Item → Bool) (B : List Held) (k : ℕ) → run p before (state [] [] [] B k) ≡ prog [] B
unfolding run
run_idle p before B k = go_idle p before (measure p [] [] []) B k

-- a step, and the rest
pub run_step : {p : Pattern} (o : Ordered p) (before : List Held → Item → Item → Bool) (R : List Root) (q t : List Item) (B : List Held) (k : ℕ) → Sane p R q t
    → run p before (state R q t B k) ≡ prog ((step_of p before R q t B k).emits ++ (run p before (step_of p before R q t B k).to).code) (run p before (step_of p before R q t B k).to).vars
unfolding go
run_step {p} o before R q t B k sane =
    sym (enough_runs o before (suc (measure p R q t)) (state R q t B k) (omega arith) sane)
    ∙ ap (λ (r : Prog). prog (s.emits ++ r.code) r.vars) (enough_runs o before (measure p R q t) s.to (let h = w.less in omega arith) w.sane)
  where
    s : Step
    s = step_of p before R q t B k

    w : Stepped p R q t B k (step_of p before R q t B k)
    w = stepped o before R q t B k sane
