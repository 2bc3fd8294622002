-- An item taken out of a list. Assumes nothing.
use Rattle.std.proofs.Common.{ℕ, suc, ◌+◌, ◌-◌, ◌<◌, ◌≤◌, ◌≡◌, ◌∙◌, sym, ap, ap₂, List, ◌++◌, take, drop, length, remove, arith}
use Rattle.std.specs.List.{copy_within, take-map}
use Rattle.std.proofs.lemmas.List.{map-append, get_or_default, drop-map, length-drop, drop-take, take-take}
use Rattle.std.proofs.lemmas.List.Edits.{take-paste}

pub ruleset taken_out = (map-append, take-map, drop-map, get_or_default)

-- those behind it move up by one
pub moved_up : {T : Type 0} (cells : List T) (n i : ℕ) → n ≤ length cells → i < n → take (n - 1) (copy_within cells (i + 1) n i) ≡ remove (take n cells) i
moved_up cells n i h b =
    let m : ℕ = n - (i + 1) in
    let k : n - 1 ≡ i + m = omega arith in
    let j : i + 1 + m ≡ n = omega arith in
    let o : i + 1 ≡ suc i = omega arith in
    let long : m ≤ length (drop (i + 1) cells) = rw length-drop (omega arith) in
    let behind : take m (drop (i + 1) cells) ≡ drop (suc i) (take n cells) = sym (drop-take (i + 1) m cells) ∙ ap₂ (λ a x. drop a (take x cells)) o j in
    ap (λ x. take x (copy_within cells (i + 1) n i)) k
    ∙ take-paste cells i (drop (i + 1) cells) m (omega arith) long
    ∙ ap₂ (λ a z. a ++ z) (sym (take-take i n cells (omega arith))) behind
