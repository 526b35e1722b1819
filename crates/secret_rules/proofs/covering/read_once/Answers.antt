use Rattle.std.proofs.Common.{◌≡◌, ◌∙◌, ◌++◌, Bool, sym, ap, subst, arith, length}
use Rattle.std.specs.Io.KnownBytes.{Consumes}
use Rattle.aho_devices.specs.Buffer.{Buffered}
use Rattle.aho_devices.specs.Counts.{counted}
use Rattle.aho_cover.proofs.Written.{on_err}
use Rattle.secret_rules.proofs.Streaming.{no-bytes}
use Rattle.secret_rules.proofs.covering.read_once.Goals as goal

pub fill_once-requires : goal.fill_once-requires
fill_once-requires g c = record {
  free = omega (arith, ap (λ (b : Buffered). length b.bytes) c.clear.ensures.cleared, ap (λ (b : Buffered). b.size) c.clear.ensures.cleared, c.facts.ensures.size, c.facts.ensures.positive);
}

pub returns-in_err-filled-clause-given : goal.returns-in_err-filled-clause-given
returns-in_err-filled-clause-given g c =
    let gained = c.in_err-filled.ensures.gained in
    subst (Consumes (g.R.Source.remaining c.args.source.now) (g.R.Source.remaining c.fill_once.new.source)) (sym (gained.held ∙ ap (λ (b : Buffered). b.bytes ++ gained.bytes) c.clear.ensures.cleared)) gained.given

pub returns-in_err-filled-clause-nothing : goal.returns-in_err-filled-clause-nothing
returns-in_err-filled-clause-nothing g c =
    on_err c.from_residual.result _ (no-bytes c.fill_once.new.self.bytes (c.in_err-filled.ensures.nothing ∙ ap (λ (b : Buffered). length b.bytes) c.clear.ensures.cleared))

pub returns-clause-given : goal.returns-clause-given
returns-clause-given g c =
    let gained = c.in_ok-filled.ensures.gained in
    subst (Consumes (g.R.Source.remaining c.args.source.now) (g.R.Source.remaining c.fill_once.new.source)) (sym (gained.held ∙ ap (λ (b : Buffered). b.bytes ++ gained.bytes) c.clear.ensures.cleared)) gained.given

pub returns-clause-told : goal.returns-clause-told
returns-clause-told g c = omega (arith, c.in_ok-filled.ensures.told, ap (λ (b : Buffered). length b.bytes) c.clear.ensures.cleared)

pub returns-clause-limited : goal.returns-clause-limited
returns-clause-limited g c =
    omega (arith, c.requires.within, c.in_ok-filled.ensures.told, c.in_ok-filled.ensures.limited, ap (λ (b : Buffered). length b.bytes) c.clear.ensures.cleared)

pub returns-clause-ended : goal.returns-clause-ended
returns-clause-ended g c =
    subst (λ (b : Bool). g.R.Source.empty_reads c.fill_once.new.source ≡ counted b (g.R.Source.empty_reads c.args.source.now)) c.in_ok-filled.ensures.some_or_ended c.in_ok-filled.ensures.ended
