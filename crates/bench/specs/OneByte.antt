-- What the automaton of one byte means. Its states are 0, where the byte was not read last, and 1, where it was.
use Rattle.std.proofs.Common.{◌≡◌, ℕ, zero, suc, ◌<◌, Bool, arith, true, false, List, [], ◌∷◌, ◌++◌, refl, sym, ◌∙◌, ap, subst, nat_eq, eq-eqb, eqb-true}
use Rattle.std.specs.Prelude.{Option, Some, is_none, Result, Ok, Err, if◌then◌else◌}
use Rattle.aho_laws.proofs.NamedStates.{HeldBy, held_by_step, reads_by_names}
use Rattle.aho_core.specs.Bytes.{folded}
use Rattle.aho_core.specs.Failure.{is_cut, state_after}
use Rattle.aho_core.specs.Held.{held_after}
use Rattle.aho_core.specs.Laws.{Reads}
use Rattle.aho_core.specs.MatchList.{matches_of, own_matches}
use Rattle.aho_core.specs.Patterns.{Patterns}
use Rattle.aho_core.specs.Step.{depth_of, follow}
use Rattle.aho_core.specs.Trie.{is_node, is_kept, pattern_word}
use Rattle.aho_core.specs.declared.error.MatchErrorKind.{MatchErrorKind}
use Rattle.aho_core.specs.declared.error.MatchErrorKind.TheVariants.{InvalidInputAnchored}
use Rattle.aho_core.specs.declared.search.Anchored.{Anchored}
use Rattle.aho_core.specs.declared.search.Anchored.TheVariants.{No, Yes}
use Rattle.aho_core.specs.declared.search.MatchKind.TheVariants.{Standard}

-- the one pattern of a byte
abbrev pub one_pattern : ℕ → Patterns
one_pattern byte = record { words = (byte ∷ []) ∷ []; kind = Standard; ignore_case = false }

-- the word that a state stands for
abbrev pub word_held : ℕ → ℕ → Option (List ℕ)
word_held byte zero = Some []
word_held byte (suc n) = Some (byte ∷ [])

-- the patterns that a state lists
abbrev pub list_of : ℕ → List ℕ
list_of zero = []
list_of (suc n) = 0 ∷ []

-- only unanchored searches have a start
abbrev pub start_of_one : Anchored → Result ℕ MatchErrorKind
start_of_one No = Ok 0
start_of_one Yes = Err InvalidInputAnchored

abbrev pub IsHeldState : Anchored → ℕ → Type 0
IsHeldState No sid = sid < 2
IsHeldState Yes sid = ⊥

-- the state stands for the word of the state that is held
abbrev pub IsHeldByOne : ℕ → Patterns → Anchored → List ℕ → ℕ → Type 0
IsHeldByOne byte p anchored word sid = HeldBy p IsHeldState (word_held byte) anchored word sid

-- the state after a byte
abbrev pub next_of : ℕ → ℕ → ℕ
next_of byte x = if nat_eq x byte then 1 else 0

-- whether a state is the start
abbrev pub is_start_of_one : ℕ → Bool
is_start_of_one sid = nat_eq sid 0

-- a byte is equal to itself
nat_eq-same : (byte : ℕ) → nat_eq byte byte ≡ true
nat_eq-same byte = eq-eqb byte byte refl

-- the lists of the two words
own-root : (byte : ℕ) → own_matches (one_pattern byte) [] ≡ []
unfolding own_matches is_kept pattern_word
own-root byte = refl

own-byte : (byte : ℕ) → own_matches (one_pattern byte) (byte ∷ []) ≡ 0 ∷ []
unfolding own_matches is_kept pattern_word
own-byte byte = rw (nat_eq-same byte) refl

-- where a byte leads from the root
state_after-byte : (byte x : ℕ) (t : Bool) → nat_eq x byte ≡ t → state_after (one_pattern byte) (x ∷ []) ≡ word_held byte (if t then 1 else 0)
unfolding is_node is_kept pattern_word is_cut
state_after-byte byte x true e =
    subst (λ (n : ℕ). state_after (one_pattern byte) (n ∷ []) ≡ Some (byte ∷ [])) (sym (eqb-true x byte e)) (rw (nat_eq-same byte) refl)
state_after-byte byte x false e = rw e refl

-- the byte and one more begin no pattern
state_after-longer : (byte x : ℕ) → state_after (one_pattern byte) (byte ∷ x ∷ []) ≡ state_after (one_pattern byte) (x ∷ [])
unfolding is_node is_kept pattern_word is_cut
state_after-longer byte x = rw (nat_eq-same byte) refl

-- and from each state
follow-word : (byte sid x : ℕ) → follow (one_pattern byte) No (word_held byte sid) x ≡ word_held byte (next_of byte x)
follow-word byte zero x = state_after-byte byte x (nat_eq x byte) refl
follow-word byte (suc n) x = state_after-longer byte x ∙ state_after-byte byte x (nat_eq x byte) refl

-- a state lists what its word does
lists-word : (byte sid : ℕ) → list_of sid ≡ matches_of (one_pattern byte) (word_held byte sid)
lists-word byte zero = sym (own-root byte)
lists-word byte (suc n) = sym (ap (λ (xs : List ℕ). xs ++ own_matches (one_pattern byte) []) (own-byte byte) ∙ ap (λ (xs : List ℕ). 0 ∷ xs) (own-root byte))

-- the laws at the byte's own pattern
reads_byte : (byte : ℕ)
    → Reads (one_pattern byte) Standard (1 ∷ []) (IsHeldByOne byte (one_pattern byte)) list_of (λ sid. false) is_start_of_one
reads_byte byte =
    reads_by_names (one_pattern byte) IsHeldState (word_held byte) Standard (1 ∷ []) list_of (λ sid. false) is_start_of_one refl refl
    (λ anchored sid held. lists-word byte sid)
    (λ anchored sid held. alive byte sid)
    (λ sid dead. cc)
    (λ sid held first. root byte sid first)
  where
    alive : (byte sid : ℕ) → false ≡ is_none (word_held byte sid)
    alive byte zero = refl
    alive byte (suc n) = refl

    root : (byte sid : ℕ) → is_start_of_one sid ≡ true → word_held byte sid ≡ Some []
    root byte sid first = ap (word_held byte) (eqb-true sid 0 first)

-- the laws, whatever the patterns are called
pub reads_one : (byte : ℕ) (p : Patterns) → p ≡ one_pattern byte
    → Reads p Standard (1 ∷ []) (IsHeldByOne byte p) list_of (λ sid. false) is_start_of_one
reads_one byte p of = subst (λ (q : Patterns). Reads q Standard (1 ∷ []) (IsHeldByOne byte q) list_of (λ sid. false) is_start_of_one) (sym of) (reads_byte byte)

-- a state that is held after some bytes is held after any others that lead to the same state of the words
pub alike_one : (byte : ℕ) (p : Patterns) (word other : List ℕ) (sid : ℕ) → IsHeldByOne byte p No word sid
    → held_after p No other ≡ held_after p No word → IsHeldByOne byte p No other sid
alike_one byte p word other sid held same = (held.0, held.1 ∙ sym same)

-- a state is as deep as the word for which it stands is long
pub reaches_one : (byte : ℕ) (p : Patterns) (word : List ℕ) (sid : ℕ)
    → IsHeldByOne byte p No word sid → sid ≡ depth_of (held_after p No word)
reaches_one byte p word sid held = by_word sid held.0 ∙ ap depth_of held.1
  where
    by_word : (sid : ℕ) → sid < 2 → sid ≡ depth_of (word_held byte sid)
    by_word zero small = refl
    by_word (suc n) small = omega (arith, small)

-- a state that follows is held after one more byte
pub held-next : (byte : ℕ) (p : Patterns) (anchored : Anchored) (word : List ℕ) (x sid next : ℕ) → p ≡ one_pattern byte
    → next ≡ next_of byte x → IsHeldByOne byte p anchored word sid → IsHeldByOne byte p anchored (word ++ x ∷ []) next
held-next byte p No word x sid next of is held =
    held_by_step p IsHeldState (word_held byte) No word x sid next held (small (nat_eq x byte) next is)
    (ap (word_held byte) is ∙ sym (subst (λ (q : Patterns). follow q No (word_held byte sid) (folded q x) ≡ word_held byte (next_of byte x)) (sym of) (follow-word byte sid x)))
  where
    small : (t : Bool) (next : ℕ) → next ≡ (if t then 1 else 0) → next < 2
    small true next e = omega arith
    small false next e = omega arith
held-next byte p Yes word x sid next of is held = absurd held.0

-- every state is special
pub all_special : (sid : ℕ) → true ≡ false → (false ≡ false) × (list_of sid ≡ [])
all_special sid e = cc
