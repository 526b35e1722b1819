-- A message is told.
use Rattle.std.proofs.Common.{None, Some, codes, inl, inr, refl}
use Rattle.aho_core.specs.Texts.{match_error_text}
use Rattle.acgrep.proofs.Told.{tells-cause}
use Rattle.acgrep.proofs.tell.tell_search.Goals as goal

pub returns : goal.returns
returns g c = record { told = λ names. tells-cause g.E.Sink names _ _ (Some (codes "search")) None (match_error_text c.args.error.now) (inl (inr (inl refl))) (inl (inr (inr (inl (c.args.error.now, refl))))) c.tell_search.ensures.told }
