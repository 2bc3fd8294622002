-- Document 01's tables, and its numbers 11 and 14, by computation. Assumes nothing.
use Rattle.std.proofs.Common.{◌≡◌, refl, true}
use Rattle.meaning.specs.Tests.{and, all_below, same_list}
use Rattle.meaning.specs.Graph.{smaller, less_kids, less}
use Rattle.meaning.specs.Ranges.{from, keep, end_from}
use Rattle.meaning.specs.Words.{node_at}
use Rattle.meaning.specs.Refusal.{good_limits, good_shape, rises_at, is_canonical, good_find_at, good_find, canonicals, ids_to, good_ids, good_range_at, good_ranges, good_classes, good_node_at, good_member_at, good_members_at, good_members, good_child_at, good_children, good_nodes, good_index_at, good_index, areas_refusal, refusal_of}
use Rattle.meaning.specs.Numbers.{T, Loop, Empty, all_right, tables}

pub claim : all_right tables ≡ true
unfolding T Loop Empty tables all_right and all_below same_list smaller less_kids less from keep end_from node_at good_limits good_shape rises_at is_canonical good_find_at good_find canonicals ids_to good_ids good_range_at good_ranges good_classes good_node_at good_member_at good_members_at good_members good_child_at good_children good_nodes good_index_at good_index areas_refusal refusal_of
claim = refl
