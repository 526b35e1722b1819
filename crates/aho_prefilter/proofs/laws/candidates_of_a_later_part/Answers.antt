use Rattle.aho_prefilter.proofs.Skips.{IsWholeMatch-sooner, NoneStartsBefore-nothing}
use Rattle.aho_prefilter.proofs.laws.candidates_of_a_later_part.Goals as goal

pub returns : goal.returns
returns c = record {
  whole = λ p haystack start later end m le none is. IsWholeMatch-sooner p haystack start later end le m none is;
  nothing = NoneStartsBefore-nothing;
}
