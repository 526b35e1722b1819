-- What a replacement puts into a room.
use Rattle.std.specs.Prelude.{◌≡◌, ◌≤◌, ◌<◌, ◌⊎◌, ℕ, List, length}
use Rattle.std.specs.Borrow.{Bor}
use Rattle.aho_core.specs.Replacement.{pieces_of, replaced}
use Rattle.aho_automaton.specs.Finding.{HoldsOfFinds}
use Rattle.chromesquid.specs.Searcher.{IsBuiltFrom, Searcher, patterns_len_of}
use Rattle.chromesquid_c.specs.Matches.{written_over}
use Rattle.chromesquid_c.specs.declared.status.TheConstants.{DONE, NO_MEMORY, NO_ROOM}

-- there is one replacement for each pattern
abbrev pub IsOneEach : Searcher → List (Bor (List ℕ)) → Type 0
IsOneEach searcher pieces = length pieces ≡ patterns_len_of searcher

-- the bytes fit into the room, and stand at its begin
abbrev pub FitsInto : List ℕ → List ℕ → List ℕ → Type 0
FitsInto bytes before after = (length bytes ≤ length before) × (after ≡ written_over before bytes)

-- the room holds the haystack with its finds replaced, which is so long
abbrev pub PutsReplaced : Searcher → List ℕ → List (Bor (List ℕ)) → List ℕ → List ℕ → ℕ → Type 0
PutsReplaced searcher haystack pieces before after len = HoldsOfFinds (IsBuiltFrom searcher) haystack (λ ms.
    FitsInto (replaced haystack ms (pieces_of pieces)) before after × (len ≡ length (replaced haystack ms (pieces_of pieces))))

-- the haystack with its finds replaced is so long, and longer than the room
abbrev pub WantsRoom : Searcher → List ℕ → List (Bor (List ℕ)) → List ℕ → ℕ → Type 0
WantsRoom searcher haystack pieces room len = HoldsOfFinds (IsBuiltFrom searcher) haystack (λ ms.
    (length room < len) × (len ≡ length (replaced haystack ms (pieces_of pieces))))

-- the number tells that it is done, that the room is too small, or that memory ran out
abbrev pub EndsReplacing : ℕ → Type 0
EndsReplacing status = (status ≡ DONE) ⊎ (status ≡ NO_ROOM) ⊎ (status ≡ NO_MEMORY)
