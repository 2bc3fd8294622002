-- What the compiler's lists hold, and the order of the waiting items. Assumes nothing.
use Rattle.std.specs.Prelude.{ℕ, ◌-◌, ◌^◌, List, map, take, get_or, Bool, eqb, ltb}
use Rattle.std.specs.Int.Bits.{bit_and}
use Rattle.std.specs.Int.Count.{ones}
use Rattle.meaning.specs.Graph.{smaller}
use Rattle.meaning.specs.Program.{reg, Held, held}
use Rattle.meaning.specs.Compiler.{Item, item, late}
use Rattle.compiler.specs.declared.list.BoundedList.{BoundedList}
use Rattle.compiler.specs.declared.instr.Record.{Record}
use Rattle.compiler.specs.declared.vars.Bound.{Bound}
use Rattle.compiler.specs.declared.items.Item.{Item as Waiting}
use Rattle.compiler.specs.declared.load.Weight.{Weight}
use Rattle.compiler.specs.Records.{packed}

-- what a bounded list holds: its cells that count
abbrev pub held_in : {T : Type 0} {N : ℕ} → BoundedList T N → List T
held_in l = take l.len l.cells

-- the instructions' words
abbrev pub codes_of : List Record → List (List ℕ)
codes_of a = map packed a

-- a bound variable
abbrev pub held_of : Bound → Held
held_of b = held b.var b.reg

abbrev pub helds_of : List Bound → List Held
helds_of a = map held_of a

-- a waiting item
abbrev pub item_of : Waiting → Item
item_of x = item x.node x.reg

abbrev pub items_of : List Waiting → List Item
items_of a = map item_of a

-- what stands past the last item
abbrev pub no_item : Waiting
no_item = record { node = 0; reg = reg 0 }

-- a node's weight
abbrev pub weight_at : List Weight → ℕ → Weight
weight_at a i = get_or a i (record { free = 0; size = 0 })

-- free variables of a node not yet bound, by their sets
abbrev pub free_count : List Weight → ℕ → ℕ → ℕ
free_count weights bound node = ones (bit_and (weight_at weights node).free (2 ^ 64 - 1 - bound))

-- item x is taken before item y
unfoldable pub goes_first : List Weight → ℕ → Waiting → Waiting → Bool
goes_first weights bound x y =
    smaller (late (eqb (free_count weights bound x.node) 0)) (late (eqb (free_count weights bound y.node) 0))
    (smaller (free_count weights bound y.node) (free_count weights bound x.node)
    (smaller (weight_at weights x.node).size (weight_at weights y.node).size
    (smaller x.node y.node (ltb x.reg.0 y.reg.0))))
