-- The records of a program, written step by step. Assumes nothing.
use Rattle.std.specs.Prelude.{ℕ, suc, ◌+◌, ◌≡◌, refl, List, [], ◌∷◌, ◌++◌, Bool, true, false, cond, not, length, Option, None, Some}
use Rattle.std.proofs.Common.{sym, ap, ◌∙◌, append_assoc}
use Rattle.meaning.specs.declared.Reg.{Reg}
use Rattle.meaning.specs.Tests.{and}
use Rattle.meaning.specs.Pattern.{PNode, var, op, Pattern, node_of, Ordered}
use Rattle.meaning.specs.Program.{Instr, bind, lookat, reg, Held}
use Rattle.meaning.specs.Compiler.{Item, item, Root, State, state, Step, step, Prog, prog, reg_of, is_ground, choose, is_leaf, number, met_var, met, taken, entered, enter, after, joined, rooted, step_of}
use Rattle.meaning.specs.Records.{Frame, record_of, grown, encode, grown_by}
use Rattle.meaning.specs.Search.Steps.{Sane}
use Rattle.meaning.specs.Search.Running.{run, run_step}

pub encode_append : (F : Frame) (k : ℕ) (is js : List Instr) → encode F k (is ++ js) ≡ encode F k is ++ encode F (grown_by k is) js
unfolding encode grown_by
encode_append F k [] js = refl
encode_append F k (x ∷ is) js = ap (λ l. record_of F k x ∷ l) (encode_append F (grown k x) is js)

pub grown_append : (k : ℕ) (is js : List Instr) → grown_by k (is ++ js) ≡ grown_by (grown_by k is) js
unfolding grown_by
grown_append k [] js = refl
grown_append k (x ∷ is) js = grown_append (grown k x) is js

var_next : (v : ℕ) (r : Reg) (s : Option Reg) (R : List Root) (q t : List Item) (B : List Held) (k : ℕ) → (met_var v r s R q t B k).to.next ≡ grown_by k (met_var v r s R q t B k).emits
unfolding met_var grown_by grown
var_next v r None R q t B k = refl
var_next v r (Some j) R q t B k = refl

pub met_next : (n : PNode) (x : Item) (R : List Root) (q t : List Item) (B : List Held) (k : ℕ) → (met n x R q t B k).to.next ≡ grown_by k (met n x R q t B k).emits
unfolding met grown_by
met_next (var v) x R q t B k = var_next v x.reg (reg_of B v) R q t B k
met_next (op o cs) x R q t B k = refl

taken_next : (p : Pattern) (n : PNode) (x : Item) (R : List Root) (t : List Item) (B : List Held) (k : ℕ) → (taken p n x R t B k).to.next ≡ grown_by k (taken p n x R t B k).emits
unfolding taken grown_by grown
taken_next p (var v) x R t B k = var_next v x.reg (reg_of B v) R [] t B k
taken_next p (op o cs) x R t B k = go (and (is_ground p B x.node) (not (is_leaf cs)))
  where
    pick : Bool → Step
    pick b = cond b (step (lookat (length R) x.node x.reg ∷ []) (state R [] t B k)) (step (bind (length R) x.node o (length cs) x.reg ∷ []) (state R (number k cs) t B (k + length cs)))

    go : (b : Bool) → (pick b).to.next ≡ grown_by k (pick b).emits
    go true = refl
    go false = refl

rooted_next : (p : Pattern) (n : PNode) (q : Root) (R : List Root) (B : List Held) (k : ℕ) → (rooted p n q R B k).to.next ≡ grown_by k (rooted p n q R B k).emits
unfolding rooted joined after enter entered grown_by grown
rooted_next p (op o cs) q R B k = refl
rooted_next p (var v) q R B k = go (reg_of B v)
  where
    go : (s : Option Reg) → (joined p v s q R B k).to.next ≡ grown_by k (joined p v s q R B k).emits
    go (Some j) = refl
    go None = met_next (node_of p q.top) (item q.top (reg k)) R [] [] B (suc k)

-- the registers after a step are those that its instructions write
pub step_next : (p : Pattern) (before : List Held → Item → Item → Bool) (R : List Root) (q t : List Item) (B : List Held) (k : ℕ)
    → (step_of p before R q t B k).to.next ≡ grown_by k (step_of p before R q t B k).emits
unfolding step_of grown_by
step_next p before [] [] [] B k = refl
step_next p before (r ∷ R) [] [] B k = rooted_next p (node_of p r.binder) r R B k
step_next p before R [] (x ∷ t) B k = taken_next p _ (choose (before B) x t).took R (choose (before B) x t).left B k
step_next p before R (x ∷ q) t B k = met_next _ x R q t B k

-- what has been written, and what is still to come from a state, are the whole
pub record Writes (p : Pattern) (before : List Held → Item → Item → Bool) (F : Frame) (s : State) (words : List (List ℕ)) (whole : List (List ℕ)) (H : List Held) : Type 0 where
  pub code : words ++ encode F s.next (run p before s).code ≡ whole
  pub vars : (run p before s).vars ≡ H

-- and so they are after a step
pub writes_step : {p : Pattern} (o : Ordered p) (before : List Held → Item → Item → Bool) (F : Frame) (R : List Root) (q t : List Item) (B : List Held) (k : ℕ) (words whole : List (List ℕ)) (vars : List Held)
    → Sane p R q t → Writes p before F (state R q t B k) words whole vars
    → Writes p before F (step_of p before R q t B k).to (words ++ encode F k (step_of p before R q t B k).emits) whole vars
writes_step {p} o before F R q t B k words whole vars sane w = record {
  code = append_assoc words (encode F k s.emits) (encode F s.to.next (run p before s.to).code)
      ∙ ap (λ l. words ++ l) (ap (λ n. encode F k s.emits ++ encode F n (run p before s.to).code) (step_next p before R q t B k) ∙ sym (encode_append F k s.emits (run p before s.to).code))
      ∙ ap (λ (r : Prog). words ++ encode F k r.code) (sym e)
      ∙ w.code;
  vars = ap (λ (r : Prog). r.vars) (sym e) ∙ w.vars;
}
  where
    s : Step
    s = step_of p before R q t B k

    e : run p before (state R q t B k) ≡ prog ((step_of p before R q t B k).emits ++ (run p before (step_of p before R q t B k).to).code) (run p before (step_of p before R q t B k).to).vars
    e = run_step o before R q t B k sane
