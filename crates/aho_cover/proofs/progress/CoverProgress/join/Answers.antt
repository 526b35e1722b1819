-- What is settled is written, and the match is joined to the other runs.
use Rattle.std.proofs.Common.{◌≡◌, ℕ, ◌-◌, ◌∷◌, Bool, List, sym, ap, subst, arith}
use Rattle.aho_core.specs.Occurrence.{Occurrence}
use Rattle.aho_core.specs.Patterns.{Patterns}
use Rattle.aho_cover.specs.declared.progress.CoverProgress.{CoverProgress}
use Rattle.aho_cover.specs.Counting.{Output}
use Rattle.aho_cover.specs.Feeds.{Feeding}
use Rattle.aho_cover.specs.Progress.{ClearlyCovered, EndsNext, HasCovered, IsBeginning}
use Rattle.aho_cover.specs.Words.{ending_with}
use Rattle.aho_cover.proofs.Covered.{has-joined, has-open}
use Rattle.aho_cover.proofs.Sound.{order-joined, room-joined, sound-joined}
use Rattle.aho_cover.proofs.Written.{on_err, writes_still, writes_with}
use Rattle.aho_cover.proofs.progress.CoverProgress.join.Given.{Over}
use Rattle.aho_cover.proofs.progress.CoverProgress.join.Goals.{After-open_place-open}
use Rattle.aho_cover.proofs.progress.CoverProgress.join.Goals as goal

-- what ends later begins behind the open place
clearly : (g : Over) (c : After-open_place-open g) (p : Patterns) (haystack : List ℕ) (written : Output) → HasCovered (g.P.Pieces.rule c.args.pieces.now) c.args.self.now (c.args.m.end - 1) p haystack written
    → ClearlyCovered (g.P.Pieces.rule c.args.pieces.now) c.args.self.now (c.args.m.end - 1) c.open_place-open.result p haystack written
clearly g c p haystack written has =
    (has, λ m occurs later. omega (arith, has-open p haystack (g.P.Pieces.rule c.args.pieces.now) c.args.self.now (c.args.m.end - 1) written has m occurs later, c.open_place-open.ensures.place, c.end.ensures.end))

pub returns-in_err-settle-clause-begins : goal.returns-in_err-settle-clause-begins
returns-in_err-settle-clause-begins g c =
    let d = (goal.at.returns-in_err-settle-clause-begins g c).After-open_place-open in
    let rule = g.P.Pieces.rule c.args.pieces.now in
    let before = c.args.m.end - 1 in
    on_err c.from_residual.result _
    (writes_still (Feeding (g.P.Pieces.holds c.args.pieces.now) c.args.self.now (HasCovered rule c.args.self.now before)) (IsBeginning c.args.self.now.words rule) (λ p haystack written has. (clearly g d p haystack written has.0, has.1)) (λ p haystack written begins. begins) (c.in_err-settle.ensures.begins before))

pub add-requires-clause-in_order : goal.add-requires-clause-in_order
add-requires-clause-in_order g c =
    order-joined c.settle.new.self c.args.m (c.in_ok-settle.ensures.sound (c.args.m.end - 1) c.requires.sound) c.requires.some

pub add-requires-clause-room : goal.add-requires-clause-room
add-requires-clause-room g c =
    let least = ap (λ (s : CoverProgress). s.buffer.least) c.in_ok-settle.ensures.others in
    room-joined c.settle.new.self c.args.m (c.in_ok-settle.ensures.sound (c.args.m.end - 1) c.requires.sound) c.requires.some c.open_place-open.result
    (omega (arith, c.open_place-open.ensures.place, c.end.ensures.end, least)) c.in_ok-settle.ensures.last

pub add-requires-clause-whole : goal.add-requires-clause-whole
add-requires-clause-whole g c = (c.in_ok-settle.ensures.sound (c.args.m.end - 1) c.requires.sound).whole

pub returns-clause-sound : goal.returns-clause-sound
returns-clause-sound g c =
    let s = c.settle.new.self in
    let read = ap (λ (s' : CoverProgress). s'.read) c.in_ok-settle.ensures.others in
    let fed = ap (λ (s' : CoverProgress). s'.fed) c.in_ok-settle.ensures.others in
    sound-joined s c.args.m (c.in_ok-settle.ensures.sound (c.args.m.end - 1) c.requires.sound) c.requires.some c.add.new.self c.add.ensures.joined
    (omega (arith, c.requires.read, read)) (omega (arith, c.in_ok-settle.ensures.copied, c.open_place-open.ensures.place, c.end.ensures.end, c.requires.behind)) (omega (arith, c.requires.unfed, fed)) c.add.ensures.whole c.add.ensures.same_room

pub returns-clause-writes : goal.returns-clause-writes
returns-clause-writes g c =
    let d = (goal.at.returns-clause-writes g c).After-open_place-open in
    let s = c.settle.new.self in
    let m = c.args.m in
    let rule = g.P.Pieces.rule c.args.pieces.now in
    let read = ap (λ (s' : CoverProgress). s'.read) c.in_ok-settle.ensures.others in
    writes_still (Feeding (g.P.Pieces.holds c.args.pieces.now) c.args.self.now (EndsNext rule c.args.self.now m))
    (Feeding (g.P.Pieces.holds c.settle.new.pieces) (record s { hand = c.add.new.self }) (HasCovered rule (record s { hand = c.add.new.self }) m.end))
    (λ p haystack written h. ((clearly g d p haystack written h.0.0, h.1), h.0.1))
    (λ p haystack written h. (has-joined p haystack rule s m c.add.new.self written h.0.0.0 h.1.0 (subst (λ (w : Bool). ending_with w p haystack m.end ≡ m ∷ h.1.0) (sym (ap (λ (s' : CoverProgress). s'.words) c.in_ok-settle.ensures.others)) h.1.1) c.requires.some (omega (arith, c.requires.read, read)) c.add.ensures.joined, h.0.1))
    (writes_with (λ p haystack. (others : List Occurrence) × (ending_with c.args.self.now.words p haystack m.end ≡ m ∷ others)) (c.in_ok-settle.ensures.writes (m.end - 1)))
