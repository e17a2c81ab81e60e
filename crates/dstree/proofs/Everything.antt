-- Every definition opened at once, for proofs by computation alone: `unfolding everything`.
use mathlib.Core.List.{flatten}
use Rattle.integer.specs.Words.{rounded_up, total, counting, those, every, chosen, is_empty, is_in, times_in, same}
use Rattle.integer.specs.Sorting.{sorted_with, poured_by, at_place}
use Rattle.segment.specs.Figures.{sum, sum_of_squares, scatter, distance}
use Rattle.segment.specs.Roots.{falling_from, floor_root, ceiling_root}
use Rattle.segment.specs.Terms.{sum_gap, scatter_gap, bound_term, spread_term}
use Rattle.segment.specs.Partition.{total_bound}
use Rattle.segment.specs.Upper.{sum_reach, scatter_reach, upper_term}
use Rattle.segment.specs.Clipped.{summed, is_crossed}
use Rattle.segment.specs.Limits.{sum_limit, scatter_limit, root_limit, largest_distance}
use Rattle.dstree.specs.Measures.{sample_limit, in_range, samples_needed, records_needed, links_needed, work_needed, labels_needed, is_trace, is_library}
use Rattle.dstree.specs.Figures.{samples_on}
use Rattle.dstree.specs.Node.{figure_of, sends_left, total_over, change_all}
use Rattle.dstree.specs.Adding.{next_node, way_from, widen_segment, widen, widen_all, join_kind, join, segment_of, segments_from, new_leaf}
use Rattle.dstree.specs.Adding.{by_either, cut_at, left_half_end, halves, candidates_from, spread_on, spread, threshold_of, test_of}
use Rattle.dstree.specs.Adding.{split_by, parts, show_sides, fewest_first, gain, best_by, best, split_into, split_kind, split_new, insertion, grown}
use Rattle.dstree.specs.Matching.{bound_on, own_bound, has_child, parent_from, bound_from, is_leaf_kind, numbers_in, leaves, before}
use Rattle.dstree.specs.Matching.{reading_order, read_on, is_nearer, nearer, best_with, distances_in, read_leaf, is_above}
use Rattle.dstree.specs.Matching.{searched, match_from, match_by_steps, least_distance, lowest_at, leaves_r, match_of}
use Rattle.dstree.specs.WellFormed.{rising, every_node, children_of, children_above, child_once, ends_fit, ends_kept, leaf_fits, in_one_leaf}
use Rattle.dstree.specs.WellFormed.{within_ℤ, segment_fits, segments_fit, threshold_fits, test_fits, node_fits, well_formed_tree}
use Rattle.dstree.specs.Refusals.{number_of, place_of, first_of}
use Rattle.dstree.specs.Sheet.{are_bytes, bytes_of, number_in, pieces, filled_to, weighted, check_of, sealed, block, blocks_from}
use Rattle.dstree.specs.Labels.{is_label, is_zero_label, are_labels, label_place, label_at}
use Rattle.dstree.specs.Sheet.{letters, head_of, coded, cell_blocks_needed, label_bytes, label_parts, blocks_of, sheet_as, blocks_needed_as}
use Rattle.dstree.specs.Sheet.{blocks_in, measures_in, count_in, before_labels, cell_bytes_in, zeros_behind, decoded, traces_in_blocks}
use Rattle.dstree.specs.Sheet.{label_in, labels_in_blocks, is_wrong_length, is_kind, is_torn}
use Rattle.dstree.specs.Sheet.{torn_conditions, are_zero, zeros_in, bad_conditions, conditions_as, library_in, judged_by, judge_as}
use Rattle.dstree.specs.SheetWidths.{all_narrow, format_of, sheet_of, blocks_needed, is_wide, traces_held, range_conditions, sheet_conditions, judge_sheet}
use Rattle.dstree.specs.Book.{beside_of, control_short, tables_short, reading_conditions, put_read, opening_entry, adding_entry}
use Rattle.dstree.specs.Book.{writing_entry, reading_entry, importing_entry, exporting_entry, checking_entry, labelling_entry}
use Rattle.dstree.specs.Book.{pair_beside, pairing_entry}
use Rattle.dstree.specs.Book.{entry_of, judge, put_unless, turn, after, reply_unless, reply_of, replies_of, start}
use Rattle.dstree.specs.Program.{refusal_line, match_line, line_of, judged_line, program_line, digits_from, decimal, spaced, text, printed}
use Rattle.dstree.specs.Claims.{numbers_among}
use Rattle.dstree.specs.KNearest.{nears, nearest_list, list_places, kth, read_into, stops_at_kth, listed, k_nearest_by_steps}
use Rattle.dstree.specs.KNearest.{leaves_rk, k_nearest_of, list_of_match, in_rank, distances_among}
use Rattle.dstree.specs.Batch.{is_batch, wanted, batch_of, best_among, read_once, read_for, batch_read, near_or_zero, batch_by_steps}
use Rattle.dstree.specs.Bands.{upper_on, own_upper, upper_from, is_edges, bands_of, is_sure, is_possible, traces_among, band_count, band_report}
use Rattle.dstree.specs.Bands.{report_places, true_count}
use Rattle.dstree.specs.Pair.{pair_rest, paired_with, traces_read, joint_distance, has_at, nearest_which, nearest_in, trail_to, pair_of}
use Rattle.dstree.specs.Pair.{merged_with, merged, is_above_both, read_joint, pair_on, winner_of, pair_from, pair_along, pair_by_steps, alone}
use Rattle.dstree.specs.LeafLimit.{full_trail, best_in, limited_by, limited_match, limited_search, next_bound, limited_from, limited_by_steps}
use Rattle.dstree.specs.Clipped.{smallest_greatest, is_listed, possible_matches}
use Rattle.dstree.specs.Recording.{header, field_bytes, recording_of, rate_in, size_in, begins, is_recording, recorded_traces}
use Rattle.dstree.specs.Recording.{judge_recording, file_traces, is_bad_file}
use Rattle.dstree.specs.Checking.{below_from, same_figures, are_exact, is_exact_at, is_exact}

unfoldable words_open : Unit {0}
unfolding flatten rounded_up total counting those every chosen is_empty is_in times_in same
words_open = tt

unfoldable figures_open : Unit {0}
unfolding sum sum_of_squares scatter distance falling_from floor_root ceiling_root sum_gap scatter_gap bound_term spread_term total_bound sum_limit
figures_open = tt

unfoldable figures_open2 : Unit {0}
unfolding scatter_limit root_limit largest_distance
figures_open2 = tt

unfoldable nodes_open : Unit {0}
unfolding sample_limit in_range samples_needed records_needed links_needed work_needed labels_needed is_trace is_library samples_on figure_of sends_left total_over
nodes_open = tt

unfoldable nodes_open2 : Unit {0}
unfolding change_all
nodes_open2 = tt

unfoldable adding_open : Unit {0}
unfolding next_node way_from widen_segment widen widen_all join_kind join segment_of segments_from new_leaf by_either cut_at left_half_end halves
adding_open = tt

unfoldable adding_open2 : Unit {0}
unfolding candidates_from spread_on spread threshold_of test_of split_by parts show_sides fewest_first gain best_by best split_into split_kind split_new
    insertion grown
adding_open2 = tt

unfoldable matching_open : Unit {0}
unfolding bound_on own_bound has_child parent_from bound_from is_leaf_kind numbers_in leaves before sorted_with poured_by reading_order read_on is_nearer nearer best_with
matching_open = tt

unfoldable matching_open2 : Unit {0}
unfolding distances_in read_leaf is_above searched match_from match_by_steps least_distance lowest_at leaves_r match_of
matching_open2 = tt

unfoldable nearest_open : Unit {0}
unfolding at_place nears nearest_list list_places kth read_into stops_at_kth listed k_nearest_by_steps leaves_rk k_nearest_of list_of_match in_rank
    distances_among
nearest_open = tt

unfoldable batches_open : Unit {0}
unfolding is_batch wanted batch_of best_among read_once read_for batch_read near_or_zero batch_by_steps
batches_open = tt

unfoldable bands_open : Unit {0}
unfolding sum_reach scatter_reach upper_term upper_on own_upper upper_from is_edges bands_of is_sure is_possible traces_among band_count band_report
    report_places true_count
bands_open = tt

unfoldable pairs_open : Unit {0}
unfolding pair_rest paired_with traces_read joint_distance has_at nearest_which nearest_in trail_to pair_of merged_with merged is_above_both read_joint pair_on winner_of pair_from
    pair_along pair_by_steps alone
pairs_open = tt

unfoldable limits_open : Unit {0}
unfolding full_trail best_in limited_by limited_match limited_search next_bound limited_from limited_by_steps
limits_open = tt

unfoldable clipped_open : Unit {0}
unfolding summed is_crossed smallest_greatest is_listed possible_matches
clipped_open = tt

unfoldable rules_open : Unit {0}
unfolding rising every_node children_of children_above child_once ends_fit ends_kept leaf_fits in_one_leaf within_ℤ segment_fits segments_fit
rules_open = tt

unfoldable rules_open2 : Unit {0}
unfolding threshold_fits test_fits node_fits well_formed_tree number_of place_of first_of
rules_open2 = tt

unfoldable sheets_open : Unit {0}
unfolding are_bytes bytes_of number_in pieces filled_to weighted check_of sealed block blocks_from letters head_of coded label_bytes is_kind
sheets_open = tt

unfoldable sheets_open2 : Unit {0}
unfolding cell_blocks_needed label_parts blocks_of sheet_as blocks_needed_as blocks_in measures_in count_in decoded cell_bytes_in traces_in_blocks before_labels
sheets_open2 = tt

unfoldable sheet_tests_open : Unit {0}
unfolding is_wrong_length is_torn torn_conditions are_zero zeros_behind zeros_in bad_conditions conditions_as library_in judged_by judge_as label_in labels_in_blocks
sheet_tests_open = tt

unfoldable widths_open : Unit {0}
unfolding all_narrow format_of sheet_of blocks_needed is_wide traces_held range_conditions sheet_conditions judge_sheet
widths_open = tt

unfoldable labels_open : Unit {0}
unfolding is_label is_zero_label are_labels label_place label_at
labels_open = tt

unfoldable recordings_open : Unit {0}
unfolding header field_bytes recording_of rate_in size_in begins is_recording recorded_traces judge_recording file_traces is_bad_file
recordings_open = tt

unfoldable checking_open : Unit {0}
unfolding below_from same_figures are_exact is_exact_at is_exact
checking_open = tt

unfoldable books_open : Unit {0}
unfolding beside_of control_short tables_short reading_conditions put_read opening_entry adding_entry writing_entry reading_entry
books_open = tt

unfoldable books_open2 : Unit {0}
unfolding importing_entry exporting_entry checking_entry labelling_entry pair_beside pairing_entry entry_of judge put_unless turn after reply_unless reply_of replies_of
    start
books_open2 = tt

unfoldable lines_open : Unit {0}
unfolding refusal_line match_line line_of judged_line program_line digits_from decimal spaced text printed numbers_among
lines_open = tt

unfoldable pub everything : Unit {0}
unfolding words_open figures_open figures_open2 nodes_open nodes_open2 adding_open adding_open2 matching_open matching_open2 nearest_open batches_open bands_open
    pairs_open limits_open clipped_open rules_open rules_open2 sheets_open sheets_open2 sheet_tests_open widths_open labels_open recordings_open checking_open books_open books_open2 lines_open
everything = tt
