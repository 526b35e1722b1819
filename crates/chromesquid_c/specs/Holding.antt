-- What a handle holds.
use Rattle.std.specs.Prelude.{◌≡◌, None, Some}
use Rattle.aho_core.specs.Patterns.{Patterns}
use Rattle.aho_core.specs.declared.search.Anchored.{Anchored}
use Rattle.chromesquid.specs.Searcher.{Answers, ForItsPatterns, RefusesSearch, Searcher}
use Rattle.chromesquid_c.specs.declared.handle.CsSearcher.{CsSearcher}
use Rattle.chromesquid_c.specs.declared.inner.Inner.{Inner}

-- it leads to this searcher
pub record HoldsSearcher (handle : CsSearcher) (searcher : Searcher) : Type 0 where
  pub one : Inner
  pub held : handle.held.value ≡ Some one
  pub same : one.searcher.value ≡ searcher

-- it leads to none
abbrev pub IsEmpty : CsSearcher → Type 0
IsEmpty handle = handle.held.value ≡ None

-- it leads to what it led to before
abbrev pub HoldsSame : CsSearcher → CsSearcher → Type 0
HoldsSame before after = after.held.value ≡ before.held.value

-- if it leads to a searcher, this is so of that
abbrev pub IfHeld : CsSearcher → (Searcher → Type 0) → Type 0
IfHeld handle Is = (searcher : Searcher) → HoldsSearcher handle searcher → Is searcher

-- this is so of all patterns that its searcher was built from
abbrev pub ForPatternsHeld : CsSearcher → (Patterns → Type 0) → Type 0
ForPatternsHeld handle Is = IfHeld handle (λ searcher. ForItsPatterns searcher Is)

-- where its searcher answers searches of this anchoring, this is so
abbrev pub IfAnswered : CsSearcher → Anchored → Type 0 → Type 0
IfAnswered handle anchored Is = IfHeld handle (λ searcher. Answers searcher anchored → Is)

-- and where it refuses them, this
abbrev pub IfRefused : CsSearcher → Anchored → Type 0 → Type 0
IfRefused handle anchored Is = IfHeld handle (λ searcher. RefusesSearch searcher anchored → Is)
