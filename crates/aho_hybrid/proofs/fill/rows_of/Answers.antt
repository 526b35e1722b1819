use Rattle.std.proofs.Common.{◌≡◌, ◌+◌, ◌∙◌, ℕ, Bool, List, arith, ap, subst, sym}
use Rattle.aho_build.proofs.StoppedBuilds.{IfErr-given}
use Rattle.aho_build.specs.declared.special.Special.{Special}
use Rattle.aho_corasick.specs.ReadOut.{classes_of, special_of, states_of}
use Rattle.aho_table.specs.Alphabet.{class_count}
use Rattle.aho_hybrid.specs.Filled.{AreFirstBytes, IsPlan, IsRowsRefusal, Parts, number_or_zero, number_in, parts_of}
use Rattle.aho_hybrid.specs.Layout.{IsSoundLayout, Layout, stride_of}
use Rattle.aho_hybrid.specs.Reading.{IsLayoutOf}
use Rattle.aho_hybrid.proofs.Counting.{rows-all}
use Rattle.aho_hybrid.proofs.Made.{deep-size, dense, same-layout, sound-layout}
use Rattle.aho_hybrid.proofs.Meant.{layout-of, marked-in, rows-down_to}
use Rattle.aho_hybrid.specs.Made.{AreMarkedIn, HasRowsDownTo}
use Rattle.aho_hybrid.proofs.Sizes.{memory-wanted}
use Rattle.aho_hybrid.proofs.fill.rows_of.Goals as goal

pub returns-clause-sound : goal.returns-clause-sound
returns-clause-sound c =
    let nfa = c.args.nfa.now in
    let filled = c.in_ok-filled.filled in
    let stride : c.alphabet_len-stride.result + 1 ≡ stride_of (classes_of nfa) = ap (λ (n : ℕ). n + 1) (c.alphabet_len-stride.ensures.len ∙ ap class_count c.byte_classes.ensures.classes) in
    let plan : Parts = parts_of nfa c.first_bytes.result c.in_ok-numbers.numbers.items c.in_ok-lists.lists.words.items c.in_ok-lists.lists.places.items c.in_ok-depths.depths.items c.row_depth-row_depth.result c.args.skips in
    let planned : IsPlan plan (c.alphabet_len-stride.result + 1) = record {
      stride_is = stride;
      bounded = omega (arith, c.alphabet_len-stride.ensures.bound);
      sized = c.first_bytes.ensures.first.sized;
      numbered = c.in_ok-numbers.ensures.numbers;
      placed = c.in_ok-lists.ensures.placed;
      deepnesses = c.in_ok-depths.ensures.depths;
    } in
    let start : c.new_unchecked.result ≡ number_in plan (special_of nfa).start_unanchored_id =
    c.new_unchecked.ensures.value ∙ c.as_usize.ensures.value ∙ c.number_or_zero-start.ensures.number
    ∙ ap (λ (l : List ℕ). number_or_zero l c.special.result.now.start_unanchored_id) c.deref.ensures.value
    ∙ ap (λ (s : Special). number_in plan s.start_unanchored_id) c.special.ensures.special in
    let done = c.in_ok-filled.ensures.filled in
    let fits = c.in_ok-sizes.ensures.fits in
    let are = c.special.ensures.starts in
    let sound = nfa.sound in
    subst IsSoundLayout
    (same-layout filled.entries.items filled.deep.items filled.moves.items c.in_ok-lists.lists.words.items c.in_ok-depths.depths.items c.row_depth-row_depth.result (classes_of nfa) c.copy.result _ c.new_unchecked.result filled.low filled.list_low filled.deep_low
    (sym (c.copy.ensures.same ∙ c.byte_classes-3.ensures.classes)) (sym start))
    (sound-layout plan (c.alphabet_len-stride.result + 1) planned filled done are sound
    (omega
    (arith, dense plan (c.alphabet_len-stride.result + 1) planned filled done are sound, deep-size plan (c.alphabet_len-stride.result + 1) planned filled done are sound, fits.states))
    (omega (arith, c.in_ok-lists.ensures.sized, fits.lists))
    (omega (arith, done.moves_sized, fits.moves)))

pub returns-clause-of : goal.returns-clause-of
returns-clause-of c p is =
    let nfa = c.args.nfa.now in
    let filled = c.in_ok-filled.filled in
    let stride : c.alphabet_len-stride.result + 1 ≡ stride_of (classes_of nfa) = ap (λ (n : ℕ). n + 1) (c.alphabet_len-stride.ensures.len ∙ ap class_count c.byte_classes.ensures.classes) in
    let plan : Parts = parts_of nfa c.first_bytes.result c.in_ok-numbers.numbers.items c.in_ok-lists.lists.words.items c.in_ok-lists.lists.places.items c.in_ok-depths.depths.items c.row_depth-row_depth.result c.args.skips in
    let planned : IsPlan plan (c.alphabet_len-stride.result + 1) = record {
      stride_is = stride;
      bounded = omega (arith, c.alphabet_len-stride.ensures.bound);
      sized = c.first_bytes.ensures.first.sized;
      numbered = c.in_ok-numbers.ensures.numbers;
      placed = c.in_ok-lists.ensures.placed;
      deepnesses = c.in_ok-depths.ensures.depths;
    } in
    let start : c.new_unchecked.result ≡ number_in plan (special_of nfa).start_unanchored_id =
    c.new_unchecked.ensures.value ∙ c.as_usize.ensures.value ∙ c.number_or_zero-start.ensures.number
    ∙ ap (λ (l : List ℕ). number_or_zero l c.special.result.now.start_unanchored_id) c.deref.ensures.value
    ∙ ap (λ (s : Special). number_in plan s.start_unanchored_id) c.special.ensures.special in
    let done = c.in_ok-filled.ensures.filled in
    let fits = c.in_ok-sizes.ensures.fits in
    let are = c.special.ensures.starts in
    let sound = nfa.sound in
    let first : AreFirstBytes (classes_of nfa) c.first_bytes.result = subst (λ (cs : List Bool). AreFirstBytes cs c.first_bytes.result) c.byte_classes-2.ensures.classes c.first_bytes.ensures.first in
    let soundly =
    sound-layout plan (c.alphabet_len-stride.result + 1) planned filled done are sound
    (omega
    (arith, dense plan (c.alphabet_len-stride.result + 1) planned filled done are sound, deep-size plan (c.alphabet_len-stride.result + 1) planned filled done are sound, fits.states))
    (omega (arith, c.in_ok-lists.ensures.sized, fits.lists))
    (omega (arith, done.moves_sized, fits.moves)) in
    subst (λ (t : Layout). IsLayoutOf t p nfa.match_kind nfa.pattern_lens.items)
    (same-layout filled.entries.items filled.deep.items filled.moves.items c.in_ok-lists.lists.words.items c.in_ok-depths.depths.items c.row_depth-row_depth.result (classes_of nfa) c.copy.result _ c.new_unchecked.result filled.low filled.list_low filled.deep_low
    (sym (c.copy.ensures.same ∙ c.byte_classes-3.ensures.classes)) (sym start))
    (layout-of plan (c.alphabet_len-stride.result + 1) planned filled done are sound soundly first p is.0.names is.0.automaton is.2
    nfa.match_kind nfa.pattern_lens.items is.0.kind_is is.0.lengths_are)

pub returns-clause-laid_out : goal.returns-clause-laid_out
returns-clause-laid_out c =
    let nfa = c.args.nfa.now in
    let filled = c.in_ok-filled.filled in
    let stride : c.alphabet_len-stride.result + 1 ≡ stride_of (classes_of nfa) = ap (λ (n : ℕ). n + 1) (c.alphabet_len-stride.ensures.len ∙ ap class_count c.byte_classes.ensures.classes) in
    let plan : Parts = parts_of nfa c.first_bytes.result c.in_ok-numbers.numbers.items c.in_ok-lists.lists.words.items c.in_ok-lists.lists.places.items c.in_ok-depths.depths.items c.row_depth-row_depth.result c.args.skips in
    let planned : IsPlan plan (c.alphabet_len-stride.result + 1) = record {
      stride_is = stride;
      bounded = omega (arith, c.alphabet_len-stride.ensures.bound);
      sized = c.first_bytes.ensures.first.sized;
      numbered = c.in_ok-numbers.ensures.numbers;
      placed = c.in_ok-lists.ensures.placed;
      deepnesses = c.in_ok-depths.ensures.depths;
    } in
    let done = c.in_ok-filled.ensures.filled in
    let are = c.special.ensures.starts in
    let sound = nfa.sound in
    let start : c.new_unchecked.result ≡ number_in plan (special_of nfa).start_unanchored_id =
    c.new_unchecked.ensures.value ∙ c.as_usize.ensures.value ∙ c.number_or_zero-start.ensures.number
    ∙ ap (λ (l : List ℕ). number_or_zero l c.special.result.now.start_unanchored_id) c.deref.ensures.value
    ∙ ap (λ (s : Special). number_in plan s.start_unanchored_id) c.special.ensures.special in
    let fits = c.in_ok-sizes.ensures.fits in
    let first : AreFirstBytes (classes_of nfa) c.first_bytes.result = subst (λ (cs : List Bool). AreFirstBytes cs c.first_bytes.result) c.byte_classes-2.ensures.classes c.first_bytes.ensures.first in
    let soundly =
    sound-layout plan (c.alphabet_len-stride.result + 1) planned filled done are sound
    (omega
    (arith, dense plan (c.alphabet_len-stride.result + 1) planned filled done are sound, deep-size plan (c.alphabet_len-stride.result + 1) planned filled done are sound, fits.states))
    (omega (arith, c.in_ok-lists.ensures.sized, fits.lists))
    (omega (arith, done.moves_sized, fits.moves)) in
    record {
      row_depth = c.row_depth-row_depth.result;
      greatest = c.row_depth-row_depth.ensures.depth;
      fits = fits;
      sized = record {
        rows = dense plan (c.alphabet_len-stride.result + 1) planned filled done are sound;
        deep = deep-size plan (c.alphabet_len-stride.result + 1) planned filled done are sound;
        moves = done.moves_sized;
        lists = c.in_ok-lists.ensures.sized;
        depths = c.in_ok-depths.ensures.depths.sized ∙ rows-all c.row_depth-row_depth.result (states_of nfa);
      };
      rows = λ p is.
          subst (HasRowsDownTo p c.row_depth-row_depth.result)
          (same-layout filled.entries.items filled.deep.items filled.moves.items c.in_ok-lists.lists.words.items c.in_ok-depths.depths.items c.row_depth-row_depth.result (classes_of nfa) c.copy.result _ c.new_unchecked.result filled.low filled.list_low filled.deep_low
          (sym (c.copy.ensures.same ∙ c.byte_classes-3.ensures.classes)) (sym start))
          (rows-down_to plan (c.alphabet_len-stride.result + 1) planned filled done are sound soundly first p is.0.names is.0.automaton is.2);
    }

pub returns-clause-marked : goal.returns-clause-marked
returns-clause-marked c p is =
    let nfa = c.args.nfa.now in
    let filled = c.in_ok-filled.filled in
    let stride : c.alphabet_len-stride.result + 1 ≡ stride_of (classes_of nfa) = ap (λ (n : ℕ). n + 1) (c.alphabet_len-stride.ensures.len ∙ ap class_count c.byte_classes.ensures.classes) in
    let plan : Parts = parts_of nfa c.first_bytes.result c.in_ok-numbers.numbers.items c.in_ok-lists.lists.words.items c.in_ok-lists.lists.places.items c.in_ok-depths.depths.items c.row_depth-row_depth.result c.args.skips in
    let planned : IsPlan plan (c.alphabet_len-stride.result + 1) = record {
      stride_is = stride;
      bounded = omega (arith, c.alphabet_len-stride.ensures.bound);
      sized = c.first_bytes.ensures.first.sized;
      numbered = c.in_ok-numbers.ensures.numbers;
      placed = c.in_ok-lists.ensures.placed;
      deepnesses = c.in_ok-depths.ensures.depths;
    } in
    let start : c.new_unchecked.result ≡ number_in plan (special_of nfa).start_unanchored_id =
    c.new_unchecked.ensures.value ∙ c.as_usize.ensures.value ∙ c.number_or_zero-start.ensures.number
    ∙ ap (λ (l : List ℕ). number_or_zero l c.special.result.now.start_unanchored_id) c.deref.ensures.value
    ∙ ap (λ (s : Special). number_in plan s.start_unanchored_id) c.special.ensures.special in
    let done = c.in_ok-filled.ensures.filled in
    let fits = c.in_ok-sizes.ensures.fits in
    let are = c.special.ensures.starts in
    let sound = nfa.sound in
    let first : AreFirstBytes (classes_of nfa) c.first_bytes.result = subst (λ (cs : List Bool). AreFirstBytes cs c.first_bytes.result) c.byte_classes-2.ensures.classes c.first_bytes.ensures.first in
    let soundly =
    sound-layout plan (c.alphabet_len-stride.result + 1) planned filled done are sound
    (omega
    (arith, dense plan (c.alphabet_len-stride.result + 1) planned filled done are sound, deep-size plan (c.alphabet_len-stride.result + 1) planned filled done are sound, fits.states))
    (omega (arith, c.in_ok-lists.ensures.sized, fits.lists))
    (omega (arith, done.moves_sized, fits.moves)) in
    subst (AreMarkedIn c.args.skips p)
    (same-layout filled.entries.items filled.deep.items filled.moves.items c.in_ok-lists.lists.words.items c.in_ok-depths.depths.items c.row_depth-row_depth.result (classes_of nfa) c.copy.result _ c.new_unchecked.result filled.low filled.list_low filled.deep_low
    (sym (c.copy.ensures.same ∙ c.byte_classes-3.ensures.classes)) (sym start))
    (marked-in plan (c.alphabet_len-stride.result + 1) planned filled done are sound soundly first p is.0.names is.0.automaton is.2 _ _ nfa.numbered.order nfa.numbered.dead)

pub returns-in_err-numbers-clause-refused : goal.returns-in_err-numbers-clause-refused
returns-in_err-numbers-clause-refused c =
    IfErr-given (IsRowsRefusal c.args.nfa.now c.args.budget) c.from_residual-in_err-numbers.result c.in_err-numbers.field-0.0 c.from_residual-in_err-numbers.ensures.1 (
      c.row_depth-row_depth.result,
      c.row_depth-row_depth.ensures.depth,
      c.in_err-numbers.ensures.refused ∙ sym (memory-wanted c.args.nfa.now c.row_depth-row_depth.result c.in_ok-sizes.ensures.fits),
    )

pub returns-in_err-filled-clause-refused : goal.returns-in_err-filled-clause-refused
returns-in_err-filled-clause-refused c =
    IfErr-given (IsRowsRefusal c.args.nfa.now c.args.budget) c.from_residual-in_err-filled.result c.in_err-filled.field-0.0 c.from_residual-in_err-filled.ensures.1 (
      c.row_depth-row_depth.result,
      c.row_depth-row_depth.ensures.depth,
      c.in_err-filled.ensures.refused ∙ sym (memory-wanted c.args.nfa.now c.row_depth-row_depth.result c.in_ok-sizes.ensures.fits),
    )

pub returns-in_err-lists-clause-refused : goal.returns-in_err-lists-clause-refused
returns-in_err-lists-clause-refused c =
    IfErr-given (IsRowsRefusal c.args.nfa.now c.args.budget) c.from_residual-in_err-lists.result c.in_err-lists.field-0.0 c.from_residual-in_err-lists.ensures.1 (
      c.row_depth-row_depth.result,
      c.row_depth-row_depth.ensures.depth,
      c.in_err-lists.ensures.refused ∙ sym (memory-wanted c.args.nfa.now c.row_depth-row_depth.result c.in_ok-sizes.ensures.fits),
    )

pub returns-in_err-depths-clause-refused : goal.returns-in_err-depths-clause-refused
returns-in_err-depths-clause-refused c =
    IfErr-given (IsRowsRefusal c.args.nfa.now c.args.budget) c.from_residual-in_err-depths.result c.in_err-depths.field-0.0 c.from_residual-in_err-depths.ensures.1 (
      c.row_depth-row_depth.result,
      c.row_depth-row_depth.ensures.depth,
      c.in_err-depths.ensures.refused ∙ sym (memory-wanted c.args.nfa.now c.row_depth-row_depth.result c.in_ok-sizes.ensures.fits),
    )
