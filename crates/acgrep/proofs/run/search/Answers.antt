-- The searcher was built from the lines that were read.
use Rattle.acgrep.proofs.Common.{AnyPart, Fit, Flags, IsBuiltFrom, IsSameWord, Keeps, MatchKind, Patterns, and_parts, common_steps, eq-eqb, name_bytes, pattern_at, pieces_of}
use Rattle.std.proofs.Common.{◌∙◌, ◌∷◌, ◌≡◌, Bool, List, Option, Some, [], ap, arith, drop, false, inl, inr, length, refl, subst, sym, true, ℕ}
use Rattle.std.specs.Prelude.{if◌then◌else◌, slice_index_or, slice_range}
use Rattle.aho_core.specs.Bytes.{folded_by}
use Rattle.tool_parts.specs.Building.{patterns_by_kind}
use Rattle.acgrep.specs.Arguments.{asks_counts, ending_by, fit_by, said, shown_by}
use Rattle.acgrep.specs.Folders.{known_by}
use Rattle.acgrep.specs.Lines.{AreFreeOf, lines}
use Rattle.acgrep.specs.Runs.{AreSought, BeginsNoMatch, WritesNoMatch, inverts, kind_sought, knows_none, origins_of, selects_none, words_sought}
use Rattle.acgrep.specs.Selected.{HoldNoEnding}
use Rattle.acgrep.specs.Told.{MaySay, TellsStatus, names_told, source_names}
use Rattle.acgrep.specs.Written.{HasMatch, IsPassedOver}
use Rattle.acgrep.specs.declared.options.Fit.TheVariants.{WholeLine, WholeWord}
use Rattle.acgrep.proofs.Bools.{either_way}
use Rattle.acgrep.proofs.LineLists.{take_zero}
use Rattle.acgrep.proofs.Reaching.{may-behind, sources-told}
use Rattle.acgrep.proofs.Tellings.{none_matches}
use Rattle.acgrep.proofs.Told.{finished, status-none, status-weaker, stays-bound, stays-low}
use Rattle.acgrep.proofs.run.search.Goals as goal

-- an empty pattern occurs in each line
empty_matches : (p : Patterns) (words : List (List ℕ)) → p.words ≡ [] ∷ words → (line : List ℕ) → HasMatch p line
empty_matches p words are line =
    let empty : pattern_at p 0 ≡ [] = ap (λ (l : List (List ℕ)). slice_index_or l 0 []) are in
    let none : slice_range line 0 0 ≡ [] = take_zero (drop 0 line) in
    let same : IsSameWord p (pattern_at p 0) (slice_range line 0 0) =
    subst (λ (word : List ℕ). IsSameWord p word (slice_range line 0 0)) (sym empty) (subst (IsSameWord p []) (sym none) refl) in (
      record { pattern = 0; start = 0; end = 0 },
      record {
        numbered = omega (arith, ap length are);
        after_start = omega arith;
        before_end = omega arith;
        sized = omega (arith, ap length empty);
        same = same;
        admitted = λ e. cc;
      },
    )

-- where no line is selected each is passed over
none_selected : (p : Patterns) (fit : Fit) (invert : Bool) (words : List (List ℕ)) → p.words ≡ words → selects_none fit invert words ≡ true → (line : List ℕ) → IsPassedOver p fit invert line
none_selected p fit false [] are is line = none_matches p fit line (λ m occurs. absurd (omega (arith, occurs.numbered, ap length are)))
none_selected p fit false (word ∷ words) are is line = absurd (cc)
none_selected p fit true [] are is line = absurd (cc)
none_selected p WholeWord true (word ∷ words) are is line = absurd (cc)
none_selected p WholeLine true (word ∷ words) are is line = absurd (cc)
none_selected p AnyPart true ([] ∷ words) are is line = empty_matches p words are line
none_selected p AnyPart true ((byte ∷ bytes) ∷ words) are is line = absurd (cc)

-- by the case rule a byte below the letters is the same as no other byte
fold_ending : (null_data ignore_case : Bool) (byte : ℕ) → folded_by ignore_case byte ≡ folded_by ignore_case (if null_data then 0 else 10) → byte ≡ (if null_data then 0 else 10)
fold_ending true true byte same = grind (arith, common_steps)
fold_ending false true byte same = grind (arith, common_steps)
fold_ending true false byte same = same
fold_ending false false byte same = same

free_plain : (flags : Flags) (kind : MatchKind) (ignore_case : Bool) (words : List (List ℕ)) → AreFreeOf (ending_by flags) words → HoldNoEnding (ending_by flags) (patterns_by_kind kind ignore_case words)
free_plain flags kind ignore_case words free number place low within = λ same.
    free number low place (omega arith) within (eq-eqb _ _ (fold_ending flags.null_data ignore_case _ same))

-- the patterns are read and searched for
pub returns-in-Ok-searcher_of : goal.returns-in-Ok-searcher_of
returns-in-Ok-searcher_of g c =
    let known = known_by g.F.Open g.F.Folders c.args.files.now in
    let given = said c.args.given.now in
    let flags = c.args.given.now.flags in
    let text = lines 10 c.in-Some.keys.text.items in
    let sought = words_sought flags text in
    let left = g.R.Read.remaining c.read_keys.new.input in
    let all : pieces_of c.as_slice-all.result.now ≡ text = ap pieces_of c.as_slice-all.ensures.value ∙ c.in-Ok.ensures.lines ∙ ap (lines 10) c.as_slice.ensures.value in
    let same : pieces_of c.sought-words.result.now ≡ sought = c.sought-words.ensures.words ∙ ap (words_sought flags) all in
    let free = rw (c.ending.ensures.ending, same) at c.first_holding.ensures.none c.in_default-first_holding.is in
    let built : IsBuiltFrom c.in-Ok-searcher_of.searcher (patterns_by_kind (kind_sought flags) flags.ignore_case sought) = rw (c.kind_sought.ensures, same) at c.in-Ok-searcher_of.ensures.of in
    let plain = free_plain flags (kind_sought flags) flags.ignore_case sought free in
    let some : knows_none flags sought ≡ false = ap (knows_none flags) (sym same) ∙ sym c.knows_none.ensures ∙ c.if-knows_none.false in
    record {
      bound = c.search_or_count.ensures.bound;
      searches = λ low.
          let done = rw all at c.search_or_count.ensures.searched _ built plain low in
          record { what = text; between = left; read = c.in-Some.ensures.words; does = either_way (asks_counts flags) (λ is. (is.0, rw some is.1, is.2)) (λ found. rw some found) done };
      begins = inr (record { what = text; between = left; read = c.in-Some.ensures.words; does = rw all at c.search_or_count.ensures.begun _ built plain });
      told = status-weaker g.E.Sink _ _ flags.no_messages (shown_by flags) _ _ _ (may-behind known.tree given (origins_of c.args.sources.now) (name_bytes c.args.names.now))
          (rw (c.in-Some.ensures.silent refl) at c.search_or_count.ensures.told);
      flushed = c.search_or_count.ensures.flushed;
    }

-- or it is known that no line is selected
pub returns-then-knows_none : goal.returns-then-knows_none
returns-then-knows_none g c =
    let known = known_by g.F.Open g.F.Folders c.args.files.now in
    let given = said c.args.given.now in
    let flags = c.args.given.now.flags in
    let names = name_bytes c.args.names.now in
    let sources = origins_of c.args.sources.now in
    let text = lines 10 c.in-Some.keys.text.items in
    let sought = words_sought flags text in
    let left = g.R.Read.remaining c.read_keys.new.input in
    let held = g.W.Sink.taken c.args.output.now in
    let held' = g.W.Sink.taken c.end_unsearched.new.output in
    let status = c.end_unsearched.result in
    let May = MaySay known.tree given sources names in
    let e = c.read_keys.new.errors in
    let e' = c.end_unsearched.new.errors in
    let ends = c.end_unsearched.ensures.told in
    let all : pieces_of c.as_slice-all.result.now ≡ text = ap pieces_of c.as_slice-all.ensures.value ∙ c.in-Ok.ensures.lines ∙ ap (lines 10) c.as_slice.ensures.value in
    let same : pieces_of c.sought-words.result.now ≡ sought = c.sought-words.ensures.words ∙ ap (words_sought flags) all in
    let asked = patterns_by_kind (kind_sought flags) flags.ignore_case sought in
    let none : knows_none flags sought ≡ true = ap (knows_none flags) (sym same) ∙ sym c.knows_none.ensures ∙ c.if-knows_none.true in
    let begun : BeginsNoMatch flags text held held' = rw all at c.end_unsearched.ensures.begun in
    record {
      bound = stays-bound g.E.Sink 1 status e e' ends (omega arith);
      searches = λ low.
          let passed = none_selected asked (fit_by flags) (inverts flags) sought refl (and_parts _ _ none).1 in
          let found : (old new : Option (List ℕ)) → Keeps old new → AreSought known c.args.screen.now given sought names left left old new status =
          λ old new keeps. rw none (record { passed = passed; unread = refl; unwritten = keeps; none = stays-low g.E.Sink 1 status e e' ends low }) in
          let written : WritesNoMatch flags text held held' = rw all at c.end_unsearched.ensures.written low in
          record {
            what = text;
            between = left;
            read = c.in-Some.ensures.words;
            does = either_way (asks_counts flags) (λ written. ([], found (Some []) (Some []) refl, written)) (found held held') written;
          };
      begins = inr (record {
        what = text;
        between = left;
        read = c.in-Some.ensures.words;
        does = either_way (asks_counts flags) (λ begun. ([], inl refl, begun)) (λ keeps. inl keeps) begun;
      });
      told = finished g.E.Sink (names_told flags.no_messages given.label sources names) May (λ line is. inl (inl is)) flags.no_messages (shown_by flags) 1 status c.args.errors.now e e'
          (subst (λ x. TellsStatus g.E.Sink May flags.no_messages (shown_by flags) 1 x e) (c.in-Some.ensures.silent refl) (status-none g.E.Sink May flags.no_messages (shown_by flags) 1 e (omega arith))) ends;
      flushed = c.end_unsearched.ensures.flushed;
    }

-- or a pattern cannot be read or searched for
pub returns-in_default-clause-told : goal.returns-in_default-clause-told
returns-in_default-clause-told g c = sources-told g.E.Sink _ _ _ _ _ _ _ refl (c.in_default.ensures.told refl)

pub returns-in_default-lines_of-clause-told : goal.returns-in_default-lines_of-clause-told
returns-in_default-lines_of-clause-told g c = sources-told g.E.Sink _ _ _ _ _ _ _ (c.in-Some.ensures.silent refl) (c.tell_memory.ensures.told (source_names (origins_of c.args.sources.now)))

pub returns-in-Some-first_holding-clause-told : goal.returns-in-Some-first_holding-clause-told
returns-in-Some-first_holding-clause-told g c = sources-told g.E.Sink _ _ _ _ _ _ _ (c.in-Some.ensures.silent refl) c.tell_ending.ensures.told

pub returns-clause-told : goal.returns-clause-told
returns-clause-told g c = sources-told g.E.Sink _ _ _ _ _ _ _ (c.in-Some.ensures.silent refl) c.tell_refusal.ensures.told
