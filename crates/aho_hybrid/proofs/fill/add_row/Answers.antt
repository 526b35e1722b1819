use Rattle.std.proofs.Common.{◌≡◌, ◌+◌, ◌∙◌, ℕ, List, [], ◌∷◌, ◌++◌, ◌<◌, get_or, inl, inr, length, arith, ap, subst, sym}
use Rattle.std.proofs.lemmas.List.{length_push, nil_from_length}
use Rattle.aho_build.specs.declared.special.Special.{Special}
use Rattle.aho_table.specs.Alphabet.{class_count}
use Rattle.aho_table.specs.Table.{matches_in, state_at}
use Rattle.std.proofs.lemmas.Bool.{cond-false}
use Rattle.std.specs.List.{sum_by}
use Rattle.aho_hybrid.proofs.Sizes.{moves-more}
use Rattle.aho_hybrid.specs.Filled.{HasEntries, IsListAt, Parts, first_low, is_deep, moves_words, parts_of, row_in, source_in, source_of, transition_words}
use Rattle.aho_hybrid.proofs.Filling.{records-passed, row-added}
use Rattle.aho_hybrid.proofs.Shared.{source-below}
use Rattle.aho_hybrid.proofs.Lows.{low-more, records-low-kept, rows-low-more}
use Rattle.aho_hybrid.proofs.fill.add_row.Goals as goal

pub returns-clause-filled : goal.returns-clause-filled
returns-clause-filled c =
    let nfa = c.args.nfa.now in
    let plan : Parts = parts_of nfa c.args.plan.now.firsts c.args.plan.now.numbers.items c.args.plan.now.lists.items c.args.plan.now.places.items c.args.plan.now.depths.items c.args.plan.now.row_depth c.args.plan.now.skips in
    let index = c.args.index in
    let old = c.args.filled.now in
    let mid = c.push_entries.new.entries.items in
    let new = c.push.new.list.items in
    let place = c.entry_at.result in
    let source : c.source_of-sid.result ≡ source_of plan index = c.source_of-sid.ensures.source ∙ ap (λ (s : Special). source_in s index) c.special.ensures.special in
    let has : HasEntries plan (source_of plan index) (class_count plan.classes) old.entries.items mid =
    subst (λ (n : ℕ). HasEntries plan n (class_count plan.classes) old.entries.items mid) source c.in_ok-push_entries.ensures.entries in
    let place_is : place ≡ get_or plan.places (source_of plan index) 0 =
    c.entry_at.ensures.entry ∙ ap (λ (l : List ℕ). get_or l c.as_usize.result 0) c.deref-2.ensures.value ∙ ap (λ (n : ℕ). get_or plan.places n 0) (c.as_usize.ensures.value ∙ source) in
    let below : source_of plan index < length plan.states = source-below plan.special plan.states c.special.ensures.starts index c.requires.within in
    let placed : IsListAt plan.lists place (matches_in plan.states (source_of plan index)) =
    subst (λ (n : ℕ). IsListAt plan.lists n (matches_in plan.states (source_of plan index))) (sym place_is) (c.requires.plan.placed.listed (source_of plan index) below) in
    let pushed : new ≡ mid ++ place ∷ [] = c.in_ok-push.ensures.pushed in
    let end : length new ≡ row_in plan index + class_count plan.classes + 1 =
    ap (λ (l : List ℕ). length l) pushed ∙ length_push mid place ∙ ap (λ (n : ℕ). n + 1) (has.sized ∙ ap (λ (n : ℕ). n + class_count plan.classes) c.requires.filled.rows.sized) in
    let words : moves_words plan.row_depth plan.special plan.states index ≡ 0 =
    cond-false (is_deep plan.row_depth (state_at plan.states index)) (sum_by transition_words (state_at plan.states (source_of plan index)).transitions) 0 c.requires.shallow in
    record {
      rows = row-added plan index old.entries.items old.list_low c.requires.filled.rows mid new c.low_with-filled.result place
          c.requires.within c.requires.shallow has pushed placed c.low_with-filled.ensures.higher
          (λ past.
          ap (matches_in plan.states) (sym source)
          ∙ nil_from_length (matches_in plan.states c.source_of-sid.result) (sym c.match_len.ensures.len ∙ c.low_with-filled.ensures.past (omega (arith, past, end, c.len.ensures, c.push.new.list.ok.0))));
      records = records-passed plan index old.deep.items old.moves.items old.deep_low c.requires.filled.records c.requires.within c.requires.shallow;
      special = omega (arith, c.max-filled.ensures);
      lows = record {
        first = omega (arith, c.max-filled.ensures, c.requires.filled.lows.first);
        low = low-more (first_low plan) old.low old.list_low c.max-filled.result c.low_with-filled.result c.max-filled.ensures c.low_with-filled.ensures.higher c.requires.filled.lows.low;
        list_low = rows-low-more plan index old.list_low c.low_with-filled.result c.requires.shallow c.requires.filled.lows.list_low
            (elim c.low_with-filled.ensures.no_higher [
              | inl same ↦ inl same
              | inr more ↦ inr (
                omega (arith, more.0, c.match_len.ensures.len, ap (λ (n : ℕ). length (matches_in plan.states n)) source),
                omega (arith, more.1, end, c.len.ensures, c.push.new.list.ok.0),
              )
            ]);
        deep_low = records-low-kept plan index old.deep_low c.requires.filled.lows.deep_low;
      };
      moves_sized = omega (arith, c.requires.filled.moves_sized, moves-more plan.special plan.states plan.row_depth index, words);
    }
