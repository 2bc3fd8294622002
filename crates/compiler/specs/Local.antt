-- What the compiler has so far, and what each of its functions makes of it. Assumes nothing.
use Rattle.std.specs.Prelude.{ℕ, suc, ◌+◌, ◌^◌, ◌≤◌, List, [], ◌∷◌, ◌++◌, cond, not, eqb, length, take, drop, Option, None, Some}
use Rattle.std.specs.Int.Bits.{bit_or}
use Rattle.meaning.specs.declared.Reg.{Reg}
use Rattle.meaning.specs.Tests.{and}
use Rattle.meaning.specs.PatternWords.{kind_at, number_at, degree_at, children_of}
use Rattle.meaning.specs.Program.{bind, compare, lookat, reg, Held, held}
use Rattle.meaning.specs.Compiler.{Item, item, reg_of}
use Rattle.meaning.specs.Records.{alone, record_of}
use Rattle.compiler.specs.declared.Compiler.{Compiler}
use Rattle.compiler.specs.declared.TheConstants.Compiler.{MAX_INSTRUCTIONS, MAX_BOUND, MAX_WAITING}
use Rattle.compiler.specs.declared.load.Weight.{Weight}
use Rattle.compiler.specs.Lists.{held_in, codes_of, helds_of, items_of, free_count}

pub record Local : Type 0 where
  pub code : List (List ℕ)
  pub vars : List Held
  pub items : List Item
  pub next : ℕ
  pub bound : ℕ

abbrev pub local : List (List ℕ) → List Held → List Item → ℕ → ℕ → Local
local c v t k b = record { code = c; vars = v; items = t; next = k; bound = b }

-- nothing yet
abbrev pub empty : Local
empty = local [] [] [] 0 0

-- the compiler's lists, each as the definitions have it
abbrev pub view : Compiler → Local
view c = local (codes_of (held_in c.code)) (helds_of (held_in c.vars)) (items_of (held_in c.items)) c.next.0 c.bound

-- room for n more of each
pub record Room (c : Compiler) (n : ℕ) : Type 0 where
  pub code : length (held_in c.code) + n ≤ MAX_INSTRUCTIONS
  pub vars : length (held_in c.vars) + n ≤ MAX_BOUND
  pub items : length (held_in c.items) + n ≤ MAX_WAITING

-- without the waiting item at place b
abbrev pub without : ℕ → Local → Local
without b l = local l.code l.vars (take b l.items ++ drop (suc b) l.items) l.next l.bound

-- a variable met again is compared, a new one bound
unfoldable pub add_var : ℕ → ℕ → ℕ → Reg → Option Reg → Local → Local
add_var place node v r None l = local l.code (l.vars ++ (held v r ∷ [])) l.items l.next (bit_or l.bound (2 ^ node))
add_var place node v r (Some j) l = local (l.code ++ (record_of (alone place) l.next (compare 0 r j) ∷ [])) l.vars l.items l.next l.bound

-- a node to be met at a register: a variable now, an operator waits
unfoldable pub add_todo : List ℕ → ℕ → ℕ → Reg → Local → Local
add_todo w place node r l = cond (eqb (kind_at w node) 0)
    (add_var place node (number_at w node) r (reg_of l.vars (number_at w node)) l)
    (local l.code l.vars (l.items ++ (item node r ∷ [])) l.next l.bound)

-- nodes at the registers from k on
unfoldable pub add_all : List ℕ → ℕ → ℕ → List ℕ → Local → Local
add_all w place k [] l = l
add_all w place k (c ∷ cs) l = add_all w place (suc k) cs (add_todo w place c (reg k) l)

-- an operator taken: looked up if it is ground and no leaf, else bound and its children met
unfoldable pub take_item : List ℕ → ℕ → List Weight → Item → Local → Local
take_item w place weights x l = cond (and (eqb (free_count weights l.bound x.node) 0) (not (eqb (degree_at w x.node) 0)))
    (local (l.code ++ (record_of (alone place) l.next (lookat 0 x.node x.reg) ∷ [])) l.vars l.items l.next l.bound)
    (add_all w place l.next (children_of w x.node) (local (l.code ++ (record_of (alone place) l.next (bind 0 x.node (number_at w x.node) (degree_at w x.node) x.reg) ∷ [])) l.vars l.items (l.next + degree_at w x.node) l.bound))
