-- What a build promises of the automaton that it makes.
use Rattle.std.specs.Prelude.{◌≡◌}
use Rattle.aho_core.specs.Patterns.{Patterns}
use Rattle.aho_build.specs.Automaton.{memory_for}
use Rattle.aho_build.specs.Prefilters.{held_by}
use Rattle.aho_build.specs.declared.settings.Settings.{Settings}
use Rattle.aho_automaton.specs.declared.automaton.Automaton.{Ghosts}

-- it holds the prefilter that the settings give for its patterns
abbrev pub HoldsPrefilter : {S : Type 0} → Ghosts S → Settings → S → Patterns → Type 0
HoldsPrefilter A settings nfa = λ (p : Patterns). A.prefilter nfa ≡ held_by settings p

-- it takes as many bytes as the settings give for its patterns
abbrev pub TakesMemory : {S : Type 0} → Ghosts S → Settings → S → Patterns → Type 0
TakesMemory A settings nfa = λ (p : Patterns). A.memory nfa ≡ memory_for settings p
