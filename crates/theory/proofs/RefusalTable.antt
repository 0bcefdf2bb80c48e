-- The worked refusals and comparisons, by computing.
use Rattle.std.proofs.Common.{refl}
use mathlib.Core.List.{flatten}
use Rattle.theory.specs.Row.{same_row, before, rows_of}
use Rattle.theory.specs.Lists.{member, index_of, distinct}
use Rattle.theory.specs.Multiset.{insert, insert_once, sorted, sorted_set, least}
use Rattle.theory.specs.Colouring.{refine_by, rounds, cell, target_cell, individualise}
use Rattle.theory.specs.SearchTree.{branches, leaves_below}
use Rattle.theory.specs.Triple.{term_row, triple_row, term_of, triple_of, triples_of, same_triple, relabel_term, relabel, is_blank, seen, incidences}
use Rattle.theory.specs.Refinement.{neighbourhood, key, refine, stable, leaves}
use Rattle.theory.specs.CanonicalForm.{certificate_rows, certificate, certificates, form, first_least, labelling, read_back}
use Rattle.theory.specs.Refusal.{first_fault}
use Rattle.theory.specs.Encoding.{graph_in}
use Rattle.theory.specs.Comparison.{mapping}
use Rattle.theory.specs.RefusalExamples.{RefusalTable}

pub refusal_table : RefusalTable
unfolding flatten same_row before member index_of distinct insert insert_once sorted sorted_set least refine_by rounds cell target_cell individualise branches leaves_below term_row triple_row term_of triple_of rows_of triples_of same_triple relabel_term relabel is_blank seen incidences neighbourhood key refine stable leaves certificate_rows certificate certificates form first_least labelling read_back first_fault graph_in mapping
refusal_table =
    record {
      finding = record { nothing = refl; no_count = refl; cut_short = refl; blanks = refl; blanks_first = refl; triples = refl; bounds = refl; no_node = refl; no_room = refl; room = refl; empty = refl };
      reading = record { nothing = refl; length_wrong = refl; blanks = refl; no_node = refl; no_room = refl; room = refl; other_order = refl; repeat = refl; empty = refl };
      mapping = record { right = refl; longer = refl; both_refused = refl; second = refl; too_short = refl; too_large = refl; taken = refl; not_there = refl; not_back = refl; counts = refl };
      comparing = record { renumbered = refl; turned = refl; itself = refl; colours_alone = refl; counts = refl; empty = refl; both_refused = refl; second = refl };
    }
