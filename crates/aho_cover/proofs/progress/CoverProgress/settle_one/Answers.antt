-- The first run in hand.
use Rattle.std.proofs.Common.{◌≡◌, ℕ, ◌<◌, ◌≤◌, List, [], ◌∷◌, ◌++◌, take, refl, sym, ◌∙◌, ap, subst, arith}
use Rattle.std.specs.Prelude.{slice_range}
use Rattle.aho_core.specs.Patterns.{Patterns}
use Rattle.aho_cover.specs.declared.hand.Hand.{Hand}
use Rattle.aho_cover.specs.Counting.{Output, put_on}
use Rattle.aho_cover.specs.Feeds.{Feeding}
use Rattle.aho_cover.specs.Hand.{held_runs}
use Rattle.aho_cover.specs.Pieces.{piece_in}
use Rattle.aho_cover.specs.Progress.{ClearlyCovered, HasCovered}
use Rattle.aho_cover.proofs.Copied.{nothing_between, through-run}
use Rattle.aho_cover.proofs.Counted.{counts_none}
use Rattle.aho_cover.proofs.Covered.{begins_within, has-begun, has-settled}
use Rattle.aho_cover.proofs.Fed.{fed-rest, fed-start}
use Rattle.aho_cover.proofs.Sound.{first-lies, first-fed, sound-settled}
use Rattle.aho_cover.proofs.Written.{on_err, writes_nothing}
use Rattle.aho_cover.proofs.progress.CoverProgress.settle_one.Given.{Over}
use Rattle.aho_cover.proofs.progress.CoverProgress.settle_one.Goals.{After-write_both}
use Rattle.aho_cover.proofs.progress.CoverProgress.settle_one.Goals as goal

-- none is settled, and nothing changes
pub returns-in_default-clause-writes : goal.returns-in_default-clause-writes
returns-in_default-clause-writes g c = λ at.
    let s = c.args.self.now in
    let holds = g.P.Pieces.holds c.args.pieces.now in
    let rule = g.P.Pieces.rule c.args.pieces.now in
    writes_nothing g.W.Sink c.args.sink.now c.args.counts.now _ (Feeding holds (record s { hand = c.take_before.new.self }) (ClearlyCovered rule (record s { hand = c.take_before.new.self }) at c.args.place))
    (λ p haystack written before.
    subst (λ (hand : Hand). Feeding holds (record s { hand = hand }) (ClearlyCovered rule (record s { hand = hand }) at c.args.place) p haystack written) (sym (c.in_default.ensures.none refl).0) before)

module _ (g : Over) (c : After-write_both g) (at : ℕ) (p : Patterns) (haystack : List ℕ) (written : Output)
    (before : Feeding (g.P.Pieces.holds c.args.pieces.now) c.args.self.now (ClearlyCovered (g.P.Pieces.rule c.args.pieces.now) c.args.self.now at c.args.place) p haystack written) where
  -- where the run lies
  lies : (c.args.self.now.copied ≤ c.in-Some.run'.start) × (c.in-Some.run'.start < c.in-Some.run'.end) × (c.in-Some.run'.end ≤ c.requires.sound.0)
  lies = first-lies c.args.self.now c.requires.sound.0 c.requires.sound.1 c.in-Some.run' (held_runs c.take_before.new.self) c.in-Some.ensures.first.0

  -- all its bytes were fed
  rest_is : slice_range haystack c.args.self.now.copied c.args.self.now.fed ++ c.bytes-rest.result.now ≡ slice_range haystack c.in-Some.run'.start c.in-Some.run'.end
  rest_is =
      let s = c.args.self.now in
      let sound = c.requires.sound in
      let run = c.in-Some.run' in
      let first = c.in-Some.ensures.first.0 in
      let end : c.end-end.result ≡ run.end = c.end-end.ensures.end in
      ap (λ (xs : List ℕ). slice_range haystack s.copied s.fed ++ xs) (c.bytes-rest.ensures.part haystack (record { within = before.0.0.given.within; last = before.0.0.given.last; whole = before.0.0.given.whole }) ∙ ap (slice_range haystack c.max.result) end)
      ∙ fed-rest haystack s.copied s.fed run.start c.max.result run.end (omega (arith, lies)) (fed-start s sound.0 sound.1 run (held_runs c.take_before.new.self) first)
      (omega (arith, c.max.ensures, c.start-start.ensures.start)) (omega (arith, c.max.ensures, c.start-start.ensures.start, lies, first-fed s sound.0 sound.1 run (held_runs c.take_before.new.self) first))

  -- so this is its piece
  piece_is : c.piece.result.now ≡ piece_in (g.P.Pieces.rule c.args.pieces.now) haystack c.in-Some.run'
  piece_is =
      let run = c.in-Some.run' in
      let s = c.args.self.now in
      let fed = slice_range haystack s.copied s.fed ++ c.bytes-rest.result.now in
      c.piece.ensures.piece
      ∙ c.end.ensures.made fed (c.feed.ensures.more (slice_range haystack s.copied s.fed) before.1)
      ∙ ap (λ rule. rule c.pattern-pattern.result fed) c.feed.ensures.same
      ∙ ap (λ (number : ℕ). g.P.Pieces.rule c.args.pieces.now number fed) c.pattern-pattern.ensures.pattern
      ∙ ap (g.P.Pieces.rule c.args.pieces.now run.pattern) rest_is

  -- what is written, of these bytes
  written_is : c.gap-gap.result.now ++ c.piece.result.now ≡ slice_range haystack c.args.self.now.copied c.in-Some.run'.start ++ piece_in (g.P.Pieces.rule c.args.pieces.now) haystack c.in-Some.run'
  written_is =
      ap (λ (xs : List ℕ). xs ++ c.piece.result.now) (c.gap-gap.ensures.part haystack (record { within = before.0.0.given.within; last = before.0.0.given.last; whole = before.0.0.given.whole }) ∙ ap (slice_range haystack c.args.self.now.copied) c.start-start.ensures.start)
      ∙ ap (λ (xs : List ℕ). slice_range haystack c.args.self.now.copied c.in-Some.run'.start ++ xs) piece_is

  -- and what holds then
  covered : (copied : ℕ) → copied ≡ c.in-Some.run'.end → HasCovered (g.P.Pieces.rule c.args.pieces.now) (record c.args.self.now { copied = copied; hand = c.take_before.new.self }) at p haystack (put_on written (c.gap-gap.result.now ++ c.piece.result.now) (c.in-Some.run' ∷ []))
  covered copied ends =
      let s = c.args.self.now in
      let rule = g.P.Pieces.rule c.args.pieces.now in
      let run = c.in-Some.run' in
      subst (λ (xs : List ℕ). HasCovered rule (record s { copied = copied; hand = c.take_before.new.self }) at p haystack (put_on written xs (run ∷ []))) (sym written_is)
      (has-settled p haystack rule s at c.args.place written run c.take_before.new.self copied before.0.0 c.in-Some.ensures.first.0 ends c.in-Some.ensures.first.1 before.0.1 lies.0 (omega (arith, lies)))

pub returns-in_err-write_both-clause-begins : goal.returns-in_err-write_both-clause-begins
returns-in_err-write_both-clause-begins g c =
    let d = (goal.at.returns-in_err-write_both-clause-begins g c).After-write_both in
    let s = c.args.self.now in
    let sound = c.requires.sound in
    let run = c.in-Some.run' in
    let some = c.in_err-write_both.ensures.beginning in
    let after = sound-settled s sound.0 sound.1 run (held_runs c.take_before.new.self) c.in-Some.ensures.first.0 c.take_before.new.self run.end refl refl c.in-Some.ensures.whole c.in-Some.ensures.same_room in
    on_err c.from_residual.result _ (λ at. record {
      bytes = take some.0 (c.gap-gap.result.now ++ c.piece.result.now);
      appends = some.2;
      runs = [];
      counted = counts_none c.args.counts.now;
      follows = λ p haystack written before.
          let rule = g.P.Pieces.rule c.args.pieces.now in
          let settled = covered g d at p haystack written before run.end refl in
          begins_within p haystack rule s.words written (c.gap-gap.result.now ++ c.piece.result.now) run some.0 some.1
          (through-run haystack (piece_in rule haystack) 0 written.runs run ∙ sym settled.written_is)
          (has-begun p haystack rule s at written before.0.0 sound.1.behind)
          (has-begun p haystack rule (record s { copied = run.end; hand = c.take_before.new.self }) at _ settled after.behind);
    })

pub returns-clause-sound : goal.returns-clause-sound
returns-clause-sound g c = λ at sound.
    let run = c.in-Some.run' in
    sound-settled c.args.self.now at sound run (held_runs c.take_before.new.self) c.in-Some.ensures.first.0 c.take_before.new.self c.end-end.result refl c.end-end.ensures.end c.in-Some.ensures.whole c.in-Some.ensures.same_room

pub returns-clause-writes : goal.returns-clause-writes
returns-clause-writes g c = λ at.
    let d = (goal.at.returns-clause-writes g c).After-write_both in
    let s = c.args.self.now in
    let sound = c.requires.sound in
    let run = c.in-Some.run' in
    let short = first-fed s sound.0 sound.1 run (held_runs c.take_before.new.self) c.in-Some.ensures.first.0 in
    record {
      bytes = c.gap-gap.result.now ++ c.piece.result.now;
      appends = c.in_ok-write_both.ensures.whole;
      runs = run ∷ [];
      counted = c.count_run.ensures.counted;
      follows = λ p haystack written before. (
        (covered g d at p haystack written before c.end-end.result c.end-end.ensures.end, before.0.1),
        subst (g.P.Pieces.holds c.begin.new.self) (sym (nothing_between haystack c.end-end.result s.fed (omega (arith, short, c.end-end.ensures.end)))) c.begin.ensures.none,
      );
    }
