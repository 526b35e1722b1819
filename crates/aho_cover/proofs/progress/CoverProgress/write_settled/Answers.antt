-- The runs that are settled, and then the bytes behind them.
use Rattle.std.proofs.Common.{◌≡◌, ℕ, ◌≤◌, max, Bool, List, refl, sym, ◌∙◌, ap, subst, arith}
use Rattle.std.specs.Prelude.{slice_range}
use Rattle.aho_core.specs.Patterns.{Patterns}
use Rattle.aho_cover.specs.declared.progress.CoverProgress.{CoverProgress}
use Rattle.aho_cover.specs.Counting.{Output}
use Rattle.aho_cover.specs.Feeds.{Feeding}
use Rattle.aho_cover.specs.Hand.{held_runs}
use Rattle.aho_cover.specs.Progress.{BareFrom, ClearlyCovered, HasCovered, IsBeginning, IsSoundCover, open_place, outside_end}
use Rattle.aho_cover.specs.Writes.{WritesOn}
use Rattle.aho_cover.proofs.Covered.{has-open}
use Rattle.aho_cover.proofs.Fed.{fed-outside, writes_feeding}
use Rattle.aho_cover.proofs.Sound.{near-outside, open-within, sound-outside}
use Rattle.aho_cover.proofs.Written.{if_both, if_err, if_ok, on_err, writes_still, writes_then}
use Rattle.aho_cover.proofs.progress.CoverProgress.write_settled.Given.{Over}
use Rattle.aho_cover.proofs.progress.CoverProgress.write_settled.Goals.{After-open_place-open, After-write_outside}
use Rattle.aho_cover.proofs.progress.CoverProgress.write_settled.Goals as goal

-- what ends later begins behind the open place
clearly : (g : Over) (c : After-open_place-open g) (p : Patterns) (haystack : List ℕ) (written : Output)
    → Feeding (g.P.Pieces.holds c.args.pieces.now) c.args.self.now (HasCovered (g.P.Pieces.rule c.args.pieces.now) c.args.self.now c.args.at) p haystack written
    → Feeding (g.P.Pieces.holds c.args.pieces.now) c.args.self.now (ClearlyCovered (g.P.Pieces.rule c.args.pieces.now) c.args.self.now c.args.at c.open_place-open.result) p haystack written
clearly g c p haystack written has =
    ((has.0, λ m occurs later. omega (arith, has-open p haystack (g.P.Pieces.rule c.args.pieces.now) c.args.self.now c.args.at written has.0 m occurs later, c.open_place-open.ensures.place)), has.1)

pub returns-in_err-settle-clause-begins : goal.returns-in_err-settle-clause-begins
returns-in_err-settle-clause-begins g c =
    let d = (goal.at.returns-in_err-settle-clause-begins g c).After-open_place-open in
    let rule = g.P.Pieces.rule c.args.pieces.now in
    on_err c.from_residual.result _
    (writes_still (Feeding (g.P.Pieces.holds c.args.pieces.now) c.args.self.now (HasCovered rule c.args.self.now c.args.at)) (IsBeginning c.args.self.now.words rule) (clearly g d) (λ p haystack written begins. begins) (c.in_err-settle.ensures.begins c.args.at))

pub write_outside-requires : goal.write_outside-requires
write_outside-requires g c = record {
  sound = (
    c.args.at,
    c.in_ok-settle.ensures.sound c.args.at c.requires.sound,
    omega (arith, open-within c.args.self.now c.args.at c.requires.sound, c.open_place-open.ensures.place),
  );
}

-- the bytes behind the runs are written
after : (g : Over) (c : After-write_outside g) → c.write_outside.new.self ≡ record c.settle.new.self { copied = max c.settle.new.self.copied (outside_end c.open_place-open.result (held_runs c.settle.new.self.hand)) }
    → IsSoundCover c.write_outside.new.self c.args.at × BareFrom c.write_outside.new.self.copied (held_runs c.write_outside.new.self.hand) (open_place c.args.self.now c.args.at)
after g c is =
    let s = c.settle.new.self in
    let at = c.args.at in
    let place = c.open_place-open.result in
    let sound = c.in_ok-settle.ensures.sound at c.requires.sound in
    let copied = max s.copied (outside_end place (held_runs s.hand)) in
    let within : place ≤ at = omega (arith, open-within c.args.self.now at c.requires.sound, c.open_place-open.ensures.place) in
    let near = near-outside s at sound place c.in_ok-settle.ensures.last in (
      subst (λ (s' : CoverProgress). IsSoundCover s' at) (sym is) (sound-outside s at sound place copied within refl),
      subst (λ (s' : CoverProgress). BareFrom s'.copied (held_runs s'.hand) (open_place c.args.self.now at)) (sym is)
          (λ other low bare. omega (arith, near other low bare, c.open_place-open.ensures.place)),
    )

pub returns-clause-sound : goal.returns-clause-sound
returns-clause-sound g c =
    let d = (goal.at.returns-clause-sound g c).After-write_outside in
    if_ok c.write_outside.result _ _ (λ is. (after g d is).0) c.write_outside.ensures.copied

pub returns-clause-bare : goal.returns-clause-bare
returns-clause-bare g c =
    let d = (goal.at.returns-clause-bare g c).After-write_outside in
    if_ok c.write_outside.result _ _ (λ is. (after g d is).1) c.write_outside.ensures.copied

-- what was written of the runs
first : (g : Over) (c : After-write_outside g)
    → WritesOn g.W.Sink c.args.sink.now c.settle.new.sink c.args.counts.now c.settle.new.counts (Feeding (g.P.Pieces.holds c.args.pieces.now) c.args.self.now (HasCovered (g.P.Pieces.rule c.args.pieces.now) c.args.self.now c.args.at))
    (Feeding (g.P.Pieces.holds c.settle.new.pieces) c.settle.new.self (ClearlyCovered (g.P.Pieces.rule c.args.pieces.now) c.settle.new.self c.args.at c.open_place-open.result))
first g c =
    let d = (goal.at.returns-clause-writes g c).After-open_place-open in
    let rule = g.P.Pieces.rule c.args.pieces.now in
    writes_still (Feeding (g.P.Pieces.holds c.args.pieces.now) c.args.self.now (HasCovered rule c.args.self.now c.args.at))
    (Feeding (g.P.Pieces.holds c.settle.new.pieces) c.settle.new.self (ClearlyCovered rule c.settle.new.self c.args.at c.open_place-open.result))
    (clearly g d) (λ p haystack written has. has) (c.in_ok-settle.ensures.writes c.args.at)

-- the same was fed then
same_fed : (g : Over) (c : After-write_outside g) → c.write_outside.new.self ≡ record c.settle.new.self { copied = max c.settle.new.self.copied (outside_end c.open_place-open.result (held_runs c.settle.new.self.hand)) }
    → (haystack : List ℕ) → slice_range haystack c.settle.new.self.copied c.settle.new.self.fed ≡ slice_range haystack c.write_outside.new.self.copied c.write_outside.new.self.fed
same_fed g c is haystack =
    let s = c.settle.new.self in
    let place = c.open_place-open.result in
    let copied = max s.copied (outside_end place (held_runs s.hand)) in
    fed-outside s c.args.at (c.in_ok-settle.ensures.sound c.args.at c.requires.sound) place copied refl haystack
    ∙ ap (λ (t : CoverProgress). slice_range haystack t.copied t.fed) (sym is)

pub returns-clause-writes : goal.returns-clause-writes
returns-clause-writes g c =
    let d = (goal.at.returns-clause-writes g c).After-write_outside in
    let s = c.settle.new.self in
    let holds = g.P.Pieces.holds c.settle.new.pieces in
    if_both c.write_outside.result _ _ _ (λ is more. writes_then (first g d) (writes_feeding holds s c.write_outside.new.self (same_fed g d is) (more c.args.at (g.P.Pieces.rule c.args.pieces.now) c.settle.new.counts)))
    c.write_outside.ensures.copied c.write_outside.ensures.writes

pub returns-clause-begins : goal.returns-clause-begins
returns-clause-begins g c =
    let d = (goal.at.returns-clause-begins g c).After-write_outside in
    let s = c.settle.new.self in
    let rule = g.P.Pieces.rule c.args.pieces.now in
    if_err c.write_outside.result _ _ (λ more.
    writes_then (first g d)
    (writes_still (Feeding (g.P.Pieces.holds c.settle.new.pieces) s (ClearlyCovered rule s c.args.at c.open_place-open.result)) (IsBeginning c.args.self.now.words rule) (λ p haystack written has. has.0)
    (λ p haystack written begins. subst (λ (w : Bool). IsBeginning w rule p haystack written) (ap (λ (s' : CoverProgress). s'.words) c.in_ok-settle.ensures.others) begins) (more c.args.at rule c.settle.new.counts)))
    c.write_outside.ensures.begins
