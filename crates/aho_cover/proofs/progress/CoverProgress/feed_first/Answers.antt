-- The first run's bytes that the buffer may let go of.
use Rattle.std.proofs.Common.{◌≡◌, ℕ, ◌-◌, List, ◌∷◌, ◌++◌, refl, sym, ◌∙◌, ap, subst, arith}
use Rattle.std.specs.Prelude.{slice_range}
use Rattle.aho_core.specs.Occurrence.{Occurrence}
use Rattle.aho_cover.specs.Hand.{held_runs}
use Rattle.aho_cover.specs.Progress.{walk_end}
use Rattle.aho_cover.proofs.Covered.{has-fed}
use Rattle.aho_cover.proofs.Fed.{fed-rest, first-known}
use Rattle.aho_cover.proofs.Sound.{first-copied, last-waits, sound-fed}
use Rattle.aho_cover.proofs.progress.CoverProgress.feed_first.Given.{Over}
use Rattle.aho_cover.proofs.progress.CoverProgress.feed_first.Goals.{After-feed}
use Rattle.aho_cover.proofs.progress.CoverProgress.feed_first.Goals as goal

-- the first run in hand, and where it begins
the_first : (g : Over) (c : After-feed g) → (x : Occurrence) × (rest : List Occurrence) × (held_runs c.args.self.now.hand ≡ x ∷ rest) × (x.start ≡ c.in-Some.start)
the_first g c = first-known (held_runs c.args.self.now.hand) c.in-Some.start (sym c.in-Some.ensures.start)

kept_is : (g : Over) (c : After-feed g) → c.saturating_sub-kept.result ≡ c.args.self.now.read - c.args.self.now.buffer.least
kept_is g c = omega (arith, c.saturating_sub-kept.ensures, c.min_buffer_len.ensures.least)

pub returns-then-from-kept-clause-sound : goal.returns-then-from-kept-clause-sound
returns-then-from-kept-clause-sound g c =
    let d = (goal.at.returns-then-from-kept-clause-sound g c).After-feed in
    let (x, rest, first, start) = the_first g d in
    sound-fed c.args.self.now (walk_end c.args.self.now) c.requires.sound (last-waits c.args.self.now) c.requires.near x rest first c.saturating_sub-kept.result (kept_is g d) (omega (arith, c.if-from-kept.true, c.max-from.ensures, start))

pub returns-then-from-kept-clause-feeds : goal.returns-then-from-kept-clause-feeds
returns-then-from-kept-clause-feeds g c = λ written p haystack before.
    let d = (goal.at.returns-then-from-kept-clause-feeds g c).After-feed in
    let s = c.args.self.now in
    let kept = c.saturating_sub-kept.result in
    let from = c.max-from.result in
    let (x, rest, first, start) = the_first g d in
    let is = kept_is g d in
    let copied : x.start ≡ s.copied = first-copied s (walk_end s) c.requires.sound (last-waits s) c.requires.near x rest first (omega (arith, c.if-from-kept.true, c.max-from.ensures, start, is)) in
    let joined : slice_range haystack s.copied s.fed ++ c.bytes.result.now ≡ slice_range haystack s.copied kept =
    ap (λ (xs : List ℕ). slice_range haystack s.copied s.fed ++ xs) (c.bytes.ensures.part haystack before.0.given)
    ∙ fed-rest haystack s.copied s.fed s.copied from kept (omega arith) (λ some. refl) (omega (arith, c.max-from.ensures, start, copied)) (omega (arith, c.if-from-kept.true)) in (
      has-fed p haystack (g.P.Pieces.rule c.args.pieces.now) s (walk_end s) written kept before.0 (last-waits s) (omega (arith, is)),
      subst (g.P.Pieces.holds c.feed.new.self) joined (c.feed.ensures.more (slice_range haystack s.copied s.fed) before.1),
    )
