-- An instruction's record, and its words. Assumes nothing.
use Rattle.std.specs.Prelude.{ℕ, List, [], ◌∷◌}
use Rattle.meaning.specs.declared.Reg.{Reg}
use Rattle.meaning.specs.Program.{reg}
use Rattle.compiler.specs.declared.instr.Record.{Record}
use Rattle.compiler.specs.declared.instr.Instr.{Instr}
use Rattle.compiler.specs.declared.instr.Instr.TheVariants.{Bind, Compare, Lookup, Scan}

abbrev pub record_by : ℕ → ℕ → ℕ → Reg → Reg → ℕ → ℕ → Record
record_by kind place n i j o a = record { kind = kind; pattern = place; node = n; from = i; to = j; op = o; arity = a }

-- a kind for each instruction, and 0 for what it has no use for
abbrev pub recorded : Instr → Record
recorded (Bind place n i j o a) = record_by 0 place n i j o a
recorded (Compare place i j) = record_by 1 place 0 i j 0 0
recorded (Lookup place n i) = record_by 2 place n i (reg 0) 0 0
recorded (Scan place j) = record_by 3 place 0 (reg 0) j 0 0

-- a record's words
abbrev pub packed : Record → List ℕ
packed r = r.kind ∷ r.pattern ∷ r.node ∷ r.from.0 ∷ r.to.0 ∷ r.op ∷ r.arity ∷ []
