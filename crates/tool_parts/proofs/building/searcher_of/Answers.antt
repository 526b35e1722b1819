-- The builder asks for these patterns, and for searches that are not anchored.
use Rattle.std.proofs.Common.{ap, ◌∙◌}
use Rattle.aho_core.specs.declared.search.Anchored.TheVariants.{No}
use Rattle.chromesquid.specs.Searcher.{Building, allows}
use Rattle.std.proofs.lemmas.Result.{IfOk-weaker}
use Rattle.tool_parts.proofs.building.searcher_of.Goals as goal

pub returns : goal.returns
returns c = record {
  of = rw c.builder_for.ensures.asked at c.build.ensures.of;
  answers = IfOk-weaker c.build.result _ _ (λ built start. ap (λ kind. allows kind No) (start ∙ ap (λ (b : Building). b.start_kind) c.builder_for.ensures.asked)) c.build.ensures.start_kind;
  refused = rw c.builder_for.ensures.asked at c.build.ensures.refused;
}
