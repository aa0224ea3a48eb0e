-- One name under which every definition computes: `unfolding computing` opens them all. Assumes nothing.
use mathlib.Core.List.{flat_map}
use Rattle.specification.specs.Lists.{order, each, all, select, joined, ascend, follows, first_difference, compare_lists, put_into, sorted}
use Rattle.specification.specs.Letters.{is_kind, good_table, test_table, kind_of, test_letter, test_letters}
use Rattle.specification.specs.Terms.{term_kind, compare_terms, pair_sign, sign_before, exchange_sign, factor_sign, factors_sign, tidy, is_zero, vanishes, staying, times_term, keep, insert}
use Rattle.specification.specs.Terms.{gather_into, gather, coef_within, term_within, vector_letters_of, scalar_letters_of, vector_letters, scalar_letters, letters_fit, within}
use Rattle.specification.specs.Terms.{factor_in_shape, part_in_shape, term_in_shape}
use Rattle.specification.specs.Records.{to_bits32, from_bits32, four_bytes, four_bytes_at, factors_of, is_one, coef_field, count_field, bit_of, part_bit, write_term, write_form}
use Rattle.specification.specs.Records.{write_into, answer_form, form_tested, stands, read_letters, read_coef, factors_at, read_factors, part_letters, good_bits, test_shape, read_term_at}
use Rattle.specification.specs.Records.{part_fits, read_terms, read_form_at, read_form, test_factors, test_term, test_terms, take_form, take_both}
use Rattle.specification.specs.Expressions.{token_bytes, test_bytes, read_letter, read_token, read_operands, read_tree, read_expr}
use Rattle.specification.specs.Reduction.{times_parts, dot_parts, wedge_parts, joined_scalars, pair_terms, pairs_of, pair_staying, product_terms, product, negate_form}
use Rattle.specification.specs.Reduction.{sum_forms, times_forms, dot_forms, wedge_forms, triple_forms, letter_form, constant_form, work_with, reduced}
use Rattle.specification.specs.Reduction.{reduce_call}
use Rattle.specification.specs.Insertion.{factor_tree, times_factors, times_part, term_tree, plus_terms, leaf_with, insert_terms, insert_form, take_insertion, with_inserted, insert_call}
use Rattle.specification.specs.Evaluation.{factor_value, factors_value, part_value, term_value, terms_value, value, expr_kind, expr_value, signed_byte, six_or_less}
use Rattle.specification.specs.Evaluation.{rest_is_zero, good_assignment, assignment, value_call}
use Rattle.specification.specs.Rules.{rule1, rule2, rule3, rule4, bracket, rule5, sides, rule_letters, rule_kind, is_rule, step_kinds_fit, step_terms, take_step, test_step_letters, step_in_shape, step_at}
use Rattle.specification.specs.Logs.{write_step, write_steps, write_log, read_step_at, read_steps, read_log, same_coef, same_terms, same_form, steps_letters, replay, take_steps, check_call}
use Rattle.specification.specs.Decision.{take_two_forms, decide_tested, letter_in_range, whole, DecidedBy, Decided}
use Rattle.specification.specs.OpenLogs.{write_state, state_table, state_count, state_form, else_shape, read_state, answer_state, open_tested, open_call, read_step, step_from, add_to, add_tested, add_call}
use Rattle.specification.specs.OpenLogs.{close_at, close_call, added, closed, run}
use Rattle.specification.specs.Shortening.{shorten_tested, Shortest, ShortenedBy, Shortened}
use Rattle.specification.specs.Printing.{digits, decimal, print_factor, print_part, is_nothing, print_size, print_star, print_term, print_first_sign, print_sign, print_terms}
use Rattle.specification.specs.Printing.{print_form, print_tested, print_result, print_call}

unfoldable pub computing : Unit {0}
unfolding flat_map order each all select joined ascend follows first_difference compare_lists put_into sorted is_kind good_table test_table kind_of test_letter test_letters
    term_kind compare_terms pair_sign sign_before exchange_sign factor_sign factors_sign tidy is_zero vanishes staying times_term keep insert gather_into gather coef_within term_within
    vector_letters_of scalar_letters_of vector_letters scalar_letters letters_fit within factor_in_shape part_in_shape term_in_shape to_bits32 from_bits32 four_bytes four_bytes_at factors_of is_one
    coef_field count_field bit_of part_bit write_term write_form write_into answer_form form_tested stands read_letters read_coef factors_at read_factors part_letters good_bits test_shape
    read_term_at part_fits read_terms read_form_at read_form test_factors test_term test_terms take_form take_both token_bytes test_bytes read_letter read_token read_operands read_tree read_expr
    times_parts dot_parts wedge_parts joined_scalars pair_terms pairs_of pair_staying product_terms product negate_form sum_forms times_forms dot_forms wedge_forms triple_forms
    letter_form constant_form work_with reduced reduce_call factor_tree times_factors times_part term_tree plus_terms leaf_with insert_terms insert_form take_insertion with_inserted insert_call factor_value factors_value part_value term_value terms_value value expr_kind expr_value signed_byte six_or_less
    rest_is_zero good_assignment assignment value_call rule1 rule2 rule3 rule4 bracket rule5 sides rule_letters rule_kind is_rule step_kinds_fit step_terms take_step test_step_letters
    step_in_shape step_at write_step write_steps write_log read_step_at read_steps read_log same_coef same_terms same_form steps_letters replay take_steps check_call take_two_forms
    decide_tested letter_in_range whole DecidedBy Decided write_state state_table state_count state_form else_shape read_state answer_state open_tested open_call read_step step_from add_to add_tested add_call
    close_at close_call added closed run shorten_tested Shortest ShortenedBy Shortened digits decimal print_factor print_part is_nothing print_size
    print_star print_term print_first_sign print_sign print_terms print_form print_tested print_result print_call
computing = tt
