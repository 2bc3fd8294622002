-- The class record at which a search for an id ends, and its nodes. Assumes nothing.
use Rattle.std.proofs.Common.{ℕ, ◌<◌, ◌≡◌, List, Ordering, Equal, sym, arith}
use Rattle.std.proofs.lemmas.Cmp.{ranked}
use Rattle.std.specs.Ordering.{nat_cmp}
use Rattle.meaning.specs.declared.Layout.{Layout}
use Rattle.meaning.specs.Ranges.{from}
use Rattle.meaning.specs.Words.{id_at, first_at, count_at}
use Rattle.meaning.specs.Good.{Sound}
use Rattle.meaning.specs.Laws.Ascending.{lt_lt}
use Rattle.meaning.specs.Laws.Joins.{joined_within}
use Rattle.meaning.proofs.Laws.Tables.{ids_rise, id_canonical, class_nodes, no_class}
use Rattle.words.specs.Stops.{Hit, Gap}
use Rattle.table.specs.Spans.{Spans}
use Rattle.table.proofs.Searches.{nowhere}

module _ {t : List ℕ} {l : Layout} (s : Sound t l) (c : ℕ) {side : ℕ → Ordering → Type 0} (tells : (k : ℕ) (o : Ordering) → side k o → o ≡ nat_cmp (id_at t l k) c) where
  pub its_nodes : (j a b : ℕ) → Hit side l.c j → a ≡ first_at t l j → b ≡ count_at t l j → Spans t l c (record { first = a; count = b })
  its_nodes j a b h p q = record {
    run = record {
      within = let w = joined_within s.classes.joined j h.within in omega arith;
      rising = λ k m. rw p (s.nodes.rising j k h.within (rw q at m));
    };
    nodes = rw (p, q, ← same) (sym (class_nodes s j h.within));
  }
    where
      same : id_at t l j ≡ c
      same = ranked (id_at t l j) c Equal (tells j Equal h.equal)

  pub absent : (m : ℕ) → Gap side l.c m → Spans t l c (record { first = 0; count = 0 })
  unfolding from
  absent m g = record {
    run = record { within = omega arith; rising = λ k b. absurd (omega arith) };
    nodes = sym (no_class s c (λ i. let (k, b, e) = s.classes.every c ((id_canonical s c).0 i) in not_there k b e));
  }
    where
      not_there : (k : ℕ) → k < l.c → id_at t l k ≡ c → ⊥
      not_there = nowhere {R = λ a b. a < b} lt_lt (λ x h. omega arith) (id_at t l) l.c (ids_rise s) c (λ k o h. ranked (id_at t l k) c o (tells k o h)) m g
