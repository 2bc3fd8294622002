-- The compiler: one step at a time, its next item by document 01's order. Assumes nothing.
use Rattle.std.specs.Prelude.{ℕ, zero, suc, ◌+◌, List, [], ◌∷◌, ◌++◌, Bool, true, false, cond, not, length, get_or, take, drop, eqb, ltb, Option, None, Some}
use Rattle.meaning.specs.declared.Reg.{Reg}
use Rattle.meaning.specs.Tests.{and}
use Rattle.meaning.specs.Graph.{smaller}
use Rattle.meaning.specs.Pattern.{PNode, var, op, Pattern, node_of, root, free, size, occ}
use Rattle.meaning.specs.Program.{Instr, bind, compare, lookat, scan, reg, Held, held}

-- a pattern node, and the register whose class must be its instance
pub record Item : Type 0 where
  pub node : ℕ
  pub reg : Reg

abbrev pub item : ℕ → Reg → Item
item n r = record { node = n; reg = r }

-- a pattern of a multipattern: the node of its binder, and its root
pub record Root : Type 0 where
  pub binder : ℕ
  pub top : ℕ

-- roots to come, children to be met, items waiting, variables bound, registers so far
pub record State : Type 0 where
  pub roots : List Root
  pub meet : List Item
  pub todo : List Item
  pub binds : List Held
  pub next : ℕ

abbrev pub state : List Root → List Item → List Item → List Held → ℕ → State
state R q t B k = record { roots = R; meet = q; todo = t; binds = B; next = k }

-- instructions, and the variables' registers in order of first binding
pub record Prog : Type 0 where
  pub code : List Instr
  pub vars : List Held

abbrev pub prog : List Instr → List Held → Prog
prog is H = record { code = is; vars = H }

pub record Step : Type 0 where
  pub emits : List Instr
  pub to : State

abbrev pub step : List Instr → State → Step
step is s = record { emits = is; to = s }

-- the register of a bound variable
unfoldable pub reg_of : List Held → ℕ → Option Reg
reg_of [] v = None
reg_of (b ∷ B) v = cond (eqb b.var v) (Some b.reg) (reg_of B v)

unfoldable pub more_if_none : Option Reg → ℕ → ℕ
more_if_none None n = suc n
more_if_none (Some r) n = n

unfoldable pub unbound_in : List Held → List ℕ → ℕ
unbound_in B [] = 0
unbound_in B (v ∷ l) = more_if_none (reg_of B v) (unbound_in B l)

-- free variables of node n not yet bound
unfoldable pub unbound : Pattern → List Held → ℕ → ℕ
unbound p B n = unbound_in B (free p n)

unfoldable pub is_ground : Pattern → List Held → ℕ → Bool
is_ground p B n = eqb (unbound p B n) 0

unfoldable pub late : Bool → ℕ
late true = 0
late false = 1

-- x is taken before y: ground now, more unbound variables, smaller size, smaller node, smaller register
unfoldable pub ahead : Pattern → List Held → Item → Item → Bool
ahead p B x y =
    smaller (late (is_ground p B x.node)) (late (is_ground p B y.node))
    (smaller (unbound p B y.node) (unbound p B x.node)
    (smaller (size p x.node) (size p y.node)
    (smaller x.node y.node (ltb x.reg.0 y.reg.0))))

-- the place of the item, among the first n, that goes before the others
unfoldable pub best : {A : Type 0} → (A → A → Bool) → A → List A → ℕ → ℕ
best before d l zero = 0
best before d l (suc n) = let b = best before d l n in cond (before (get_or l n d) (get_or l b d)) n b

pub record Pick : Type 0 where
  pub took : Item
  pub left : List Item

abbrev pub pick : Item → List Item → Pick
pick x l = record { took = x; left = l }

-- the item at place b, and the others
unfoldable pub pick_at : Item → List Item → ℕ → Pick
pick_at d l b = pick (get_or l b d) (take b l ++ drop (suc b) l)

-- the item that goes before the others, and the others
unfoldable pub choose : (Item → Item → Bool) → Item → List Item → Pick
choose before x l = pick_at x (x ∷ l) (best before x (x ∷ l) (suc (length l)))

-- children at the registers from k on
unfoldable pub number : ℕ → List ℕ → List Item
number k [] = []
number k (c ∷ cs) = item c (reg k) ∷ number (suc k) cs

unfoldable pub is_leaf : List ℕ → Bool
is_leaf [] = true
is_leaf (c ∷ cs) = false

unfoldable pub met_var : ℕ → Reg → Option Reg → List Root → List Item → List Item → List Held → ℕ → Step
met_var v r None R q t B k = step [] (state R q t (B ++ (held v r ∷ [])) k)
met_var v r (Some j) R q t B k = step (compare (length R) r j ∷ []) (state R q t B k)

-- a child is met: a variable binds or compares, an operator waits
unfoldable pub met : PNode → Item → List Root → List Item → List Item → List Held → ℕ → Step
met (var v) x R q t B k = met_var v x.reg (reg_of B v) R q t B k
met (op o cs) x R q t B k = step [] (state R q (t ++ (x ∷ [])) B k)

-- an operator is taken: Lookup if ground and no leaf, else Bind
unfoldable pub taken : Pattern → PNode → Item → List Root → List Item → List Held → ℕ → Step
taken p (var v) x R t B k = met_var v x.reg (reg_of B v) R [] t B k
taken p (op o cs) x R t B k = cond (and (is_ground p B x.node) (not (is_leaf cs)))
    (step (lookat (length R) x.node x.reg ∷ []) (state R [] t B k))
    (step (bind (length R) x.node o (length cs) x.reg ∷ []) (state R (number k cs) t B (k + length cs)))

-- a binder is bound right after its root is met
unfoldable pub bind_once : ℕ → Reg → Option Reg → List Held → List Held
bind_once v r None B = B ++ (held v r ∷ [])
bind_once v r (Some j) B = B

unfoldable pub entered : ℕ → Reg → Step → Step
entered v r m = step m.emits (state m.to.roots m.to.meet m.to.todo (bind_once v r (reg_of m.to.binds v) m.to.binds) m.to.next)

-- the root of a pattern with a new binder v, at the register k
unfoldable pub enter : Pattern → ℕ → Root → List Root → List Held → ℕ → Step
enter p v q R B k = entered v (reg k) (met (node_of p q.top) (item q.top (reg k)) R [] [] B (suc k))

unfoldable pub after : List Instr → Step → Step
after is t = step (is ++ t.emits) t.to

unfoldable pub joined : Pattern → ℕ → Option Reg → Root → List Root → List Held → ℕ → Step
joined p v (Some j) q R B k = step [] (state R (item q.top j ∷ []) [] B k)
joined p v None q R B k = after (scan (length R) ∷ []) (enter p v q R B k)

-- the next pattern: at its binder's register, or after a Scan
unfoldable pub rooted : Pattern → PNode → Root → List Root → List Held → ℕ → Step
rooted p (var v) q R B k = joined p v (reg_of B v) q R B k
rooted p (op o cs) q R B k = step [] (state [] [] [] B k)

unfoldable pub step_of : Pattern → (List Held → Item → Item → Bool) → List Root → List Item → List Item → List Held → ℕ → Step
step_of p before [] [] [] B k = step [] (state [] [] [] B k)
step_of p before (q ∷ R) [] [] B k = rooted p (node_of p q.binder) q R B k
step_of p before R [] (x ∷ t) B k = let q = choose (before B) x t in taken p (node_of p q.took.node) q.took R q.left B k
step_of p before R (x ∷ q) t B k = met (node_of p x.node) x R q t B k

-- f steps from a state
unfoldable pub go : Pattern → (List Held → Item → Item → Bool) → ℕ → State → Prog
go p before zero s = prog [] s.binds
go p before (suc f) s =
    let t = step_of p before s.roots s.meet s.todo s.binds s.next in
    let r = go p before f t.to in
    prog (t.emits ++ r.code) r.vars

-- enough steps: two for each occurrence
unfoldable pub compile_by : (List Held → Item → Item → Bool) → Pattern → Prog
compile_by before p = go p before (occ p (root p) + occ p (root p)) (state [] (item (root p) (reg 0) ∷ []) [] [] 1)

unfoldable pub compile : Pattern → Prog
compile p = compile_by (ahead p) p

-- steps enough for all the roots
unfoldable pub root_load : Pattern → List Root → ℕ
root_load p [] = 0
root_load p (q ∷ R) = suc (occ p q.top + occ p q.top) + root_load p R

-- the patterns of a multipattern in one list of nodes, the first root at register 0
unfoldable pub compile_from : (List Held → Item → Item → Bool) → Pattern → PNode → Root → List Root → Prog
compile_from before p (op o cs) q R = prog [] []
compile_from before p (var v) q R =
    let s = enter p v q R [] 0 in
    let r = go p before (root_load p (q ∷ R)) s.to in
    prog (s.emits ++ r.code) r.vars

unfoldable pub compile_roots : (List Held → Item → Item → Bool) → Pattern → List Root → Prog
compile_roots before p [] = prog [] []
compile_roots before p (q ∷ R) = compile_from before p (node_of p q.binder) q R
