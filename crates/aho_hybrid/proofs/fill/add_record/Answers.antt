use Rattle.std.proofs.Common.{◌≡◌, ◌<◌, ◌+◌, ◌∙◌, ℕ, List, ◌++◌, get_or, inl, inr, length, arith, ap, subst, sym}
use Rattle.std.proofs.lemmas.List.{length-append, nil_from_length}
use Rattle.aho_build.specs.declared.special.Special.{Special}
use Rattle.aho_table.specs.Table.{IsRising, depth_in, fail_in, matches_in, state_at}
use Rattle.aho_hybrid.specs.Filled.{IsListAt, Parts, flat, is_deep, moves_of, moves_words, number_or_zero, number_in, parts_of, source_in, source_of, transition_words, transitions_of}
use Rattle.aho_hybrid.proofs.Filling.{record-added, rows-passed}
use Rattle.aho_hybrid.proofs.Shared.{source-below}
use Rattle.aho_hybrid.proofs.Lows.{records-low-more, rows-low-kept}
use Rattle.aho_hybrid.proofs.Sizes.{flat-size, moves-grow, moves-more}
use Rattle.std.proofs.lemmas.Bool.{cond-true, ltb-true}
use Rattle.std.specs.List.{sum_by}
use Rattle.aho_hybrid.proofs.fill.add_record.Goals as goal

pub new_unchecked-requires-2 : goal.new_unchecked-requires-2
new_unchecked-requires-2 c =
    let nfa = c.args.nfa.now in
    let plan : Parts = parts_of nfa c.args.plan.now.firsts c.args.plan.now.numbers.items c.args.plan.now.lists.items c.args.plan.now.places.items c.args.plan.now.depths.items c.args.plan.now.row_depth c.args.plan.now.skips in
    let index = c.args.index in
    record {
      within = omega (arith, c.len-place.ensures, c.args.filled.now.moves.ok.0, c.requires.filled.moves_sized, moves-grow plan.special plan.states plan.row_depth index (length plan.states) (omega (arith, c.requires.within)), c.requires.fits.moves);
    }

pub new_unchecked-requires-3 : goal.new_unchecked-requires-3
new_unchecked-requires-3 c =
    let nfa = c.args.nfa.now in
    let plan : Parts = parts_of nfa c.args.plan.now.firsts c.args.plan.now.numbers.items c.args.plan.now.lists.items c.args.plan.now.places.items c.args.plan.now.depths.items c.args.plan.now.row_depth c.args.plan.now.skips in
    let index = c.args.index in
    let old = c.args.filled.now in
    let source : c.source_of-sid.result ≡ source_of plan index = c.source_of-sid.ensures.source ∙ ap (λ (s : Special). source_in s index) c.special.ensures.special in
    let listed : c.transitions.result ≡ transitions_of plan index = c.transitions.ensures.listed ∙ ap (λ (n : ℕ). (state_at plan.states n).transitions) source in
    let moved : c.push_moves.new.moves.items ≡ old.moves.items ++ moves_of plan index =
    c.in_ok-push_moves.ensures.pushed
    ∙ ap (λ (l : List ℕ). old.moves.items ++ flat l c.transitions.result) c.deref.ensures.value
    ∙ ap (λ (ts : List (ℕ × ℕ)). old.moves.items ++ flat plan.numbers ts) listed in
    let longer : length c.push_moves.new.moves.items ≡ length old.moves.items + length (moves_of plan index) =
    ap (λ (l : List ℕ). length l) moved ∙ length-append old.moves.items (moves_of plan index) in
    let words : moves_words plan.row_depth plan.special plan.states index ≡ sum_by transition_words (transitions_of plan index) =
    cond-true (is_deep plan.row_depth (state_at plan.states index)) (sum_by transition_words (transitions_of plan index)) 0 c.requires.deep in
    record {
      within = omega (arith, c.len.ensures, c.push_moves.new.moves.ok.0, longer, flat-size plan.numbers (transitions_of plan index), words, moves-more plan.special plan.states plan.row_depth index, moves-grow plan.special plan.states plan.row_depth (index + 1) (length plan.states) (omega (arith, c.requires.within)), c.requires.fits.moves);
    }

pub returns-clause-filled : goal.returns-clause-filled
returns-clause-filled c =
    let nfa = c.args.nfa.now in
    let plan : Parts = parts_of nfa c.args.plan.now.firsts c.args.plan.now.numbers.items c.args.plan.now.lists.items c.args.plan.now.places.items c.args.plan.now.depths.items c.args.plan.now.row_depth c.args.plan.now.skips in
    let index = c.args.index in
    let old = c.args.filled.now in
    let list = c.entry_at.result in
    let place = c.new_unchecked-2.result in
    let source : c.source_of-sid.result ≡ source_of plan index = c.source_of-sid.ensures.source ∙ ap (λ (s : Special). source_in s index) c.special.ensures.special in
    let list_is : list ≡ get_or plan.places (source_of plan index) 0 =
    c.entry_at.ensures.entry ∙ ap (λ (l : List ℕ). get_or l c.as_usize.result 0) c.deref-3.ensures.value ∙ ap (λ (n : ℕ). get_or plan.places n 0) (c.as_usize.ensures.value ∙ source) in
    let below : source_of plan index < length plan.states = source-below plan.special plan.states c.special.ensures.starts index c.requires.within in
    let placed : IsListAt plan.lists list (matches_in plan.states (source_of plan index)) =
    subst (λ (n : ℕ). IsListAt plan.lists n (matches_in plan.states (source_of plan index))) (sym list_is) (c.requires.plan.placed.listed (source_of plan index) below) in
    let link : c.number_or_zero.result ≡ number_in plan (fail_in plan.states (source_of plan index)) =
    c.number_or_zero.ensures.number ∙ ap (λ (l : List ℕ). number_or_zero l c.fail.result) c.deref-2.ensures.value
    ∙ ap (number_in plan) (c.fail.ensures.fail ∙ ap (fail_in plan.states) source) in
    let listed : c.transitions.result ≡ transitions_of plan index = c.transitions.ensures.listed ∙ ap (λ (n : ℕ). (state_at plan.states n).transitions) source in
    let moved : c.push_moves.new.moves.items ≡ old.moves.items ++ moves_of plan index =
    c.in_ok-push_moves.ensures.pushed
    ∙ ap (λ (l : List ℕ). old.moves.items ++ flat l c.transitions.result) c.deref.ensures.value
    ∙ ap (λ (ts : List (ℕ × ℕ)). old.moves.items ++ flat plan.numbers ts) listed in
    let longer : length c.push_moves.new.moves.items ≡ length old.moves.items + length (moves_of plan index) =
    ap (λ (l : List ℕ). length l) moved ∙ length-append old.moves.items (moves_of plan index) in
    let place_is : place ≡ length old.moves.items = omega (arith, c.new_unchecked-2.ensures.value, c.len-place.ensures, old.moves.ok.0) in
    let size : c.new_unchecked-3.result ≡ length (moves_of plan index) =
    omega (arith, c.new_unchecked-3.ensures.value, c.len.ensures, c.push_moves.new.moves.ok.0, c.len-place.ensures, old.moves.ok.0, longer) in
    let deeper : plan.row_depth < depth_in plan.states index = ltb-true plan.row_depth (depth_in plan.states index) c.requires.deep in
    let depth : c.depth.result ≡ depth_in plan.states index = c.depth.ensures.depth ∙ ap (depth_in plan.states) c.new_unchecked-own.ensures.value in
    let number : c.number_or_zero-2.result ≡ number_in plan index =
    c.number_or_zero-2.ensures.number ∙ ap (λ (l : List ℕ). number_or_zero l c.new_unchecked-own.result) c.deref-4.ensures.value ∙ ap (number_in plan) c.new_unchecked-own.ensures.value in
    let words : moves_words plan.row_depth plan.special plan.states index ≡ sum_by transition_words (transitions_of plan index) =
    cond-true (is_deep plan.row_depth (state_at plan.states index)) (sum_by transition_words (transitions_of plan index)) 0 c.requires.deep in
    record {
      rows = rows-passed plan index old.entries.items old.list_low c.requires.within c.requires.deep c.requires.filled.rows;
      records = record-added plan index old.deep.items old.moves.items old.deep_low c.requires.filled.records
          c.push_record.new.deep.items c.push_moves.new.moves.items c.low_with-filled.result c.number_or_zero.result list c.new_unchecked.result place c.new_unchecked-3.result
          c.requires.within c.requires.deep c.in_ok-push_record.ensures.pushed link placed
          (omega (arith, c.new_unchecked.ensures.value, depth, deeper)) moved place_is size
          (subst IsRising listed c.transitions.ensures.rising)
          (omega (arith, depth, c.depth.ensures.bound))
          c.low_with-filled.ensures.higher
          (λ past.
          ap (matches_in plan.states) (sym source)
          ∙ nil_from_length (matches_in plan.states c.source_of-sid.result)
          (sym c.match_len.ensures.len ∙ c.low_with-filled.ensures.past (omega (arith, past, number, c.as_usize-end.ensures.value))));
      special = c.requires.filled.special;
      lows = record {
        first = c.requires.filled.lows.first;
        low = c.requires.filled.lows.low;
        list_low = rows-low-kept plan index old.list_low c.requires.filled.lows.list_low;
        deep_low = records-low-more plan index old.deep_low c.low_with-filled.result c.requires.deep c.requires.filled.lows.deep_low
            (elim c.low_with-filled.ensures.no_higher [
              | inl same ↦ inl same
              | inr more ↦ inr (
                omega (arith, more.0, c.match_len.ensures.len, ap (λ (n : ℕ). length (matches_in plan.states n)) source),
                omega (arith, more.1, number, c.as_usize-end.ensures.value),
              )
            ]);
      };
      moves_sized = omega (arith, longer, flat-size plan.numbers (transitions_of plan index), c.requires.filled.moves_sized, moves-more plan.special plan.states plan.row_depth index, words);
    }
