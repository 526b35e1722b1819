-- Which pieces are clean: why one is not, that it is where nothing is found, and that a pseudonym is where none can spell a pattern. Where
-- pieces that are made of runs are clean, nothing occurs in a text whose runs are replaced by them.
use Rattle.acredact.proofs.Common.{All, All-cons, All-head, All-nil, All-tail, All-weaker, ArePatterns, Bool, Bor, IsCleanPiece, IsMarked, IsMember, List, None, Occurrence, Option, Patterns, PieceRule, Some, [], and_parts, ap, append_assoc, arith, as_compared, common_steps, drop, drop_more, eqb-true, false, first_number, folded_by, folded_word, get_or, get_or-map, get_or-replicate, holder_in, holds_byte, if◌then◌else◌, inl, inr, length, list_all, map, may_be_spelled, member-get_or, nat_eq, pattern_at, piece_in, pieces_of, pseudonym_rule, refl, replaced, replaced_by, replaced_from, replicate, slice_index_or, slice_range, subst, suc, sym, take, take_all, true, ℕ, ◌++◌, ◌+◌, ◌-◌, ◌<◌, ◌||◌, ◌∙◌, ◌∷◌, ◌≡◌}
use Rattle.aho_laws.specs.CutLaws.{NoneHolds}
use Rattle.std.proofs.Common.{below_more, ◌%◌}
use Rattle.std.specs.Prelude.{MatchOption}
use Rattle.std.proofs.Math.Nat.{mod-lt}
use Rattle.std.proofs.lemmas.Bool.Decides.{nat_tests}
use Rattle.std.proofs.lemmas.Bool.{both_ways, or_parts}
use Rattle.std.proofs.lemmas.List.{take_more}
use Rattle.std.proofs.lemmas.List.Elements.{All-drop, All-take}
use Rattle.std.proofs.lemmas.List.Folds.{Any-from_list_any, list_all-map, list_any_none}
use Rattle.std.proofs.lemmas.List.Sums.{AllPass-from_list_all, list_all-from_AllPass}
use Rattle.aho_core.specs.Bytes.{folded}
use Rattle.aho_core.specs.Cover.{AreRuns}
use Rattle.aho_laws.proofs.CoverClean.{cover-free}
use Rattle.aho_laws.proofs.JoinedPieces.{clear_joined}
use Rattle.aho_laws.proofs.Replacements.{replaced_from-same}
use Rattle.aho_laws.proofs.SpanTexts.{Occurs-left, Occurs-of_left, Occurs-of_right, Occurs-right, moved_back}
use Rattle.acredact.specs.Hmac.{hmac_sha256}
use Rattle.acredact.specs.Pieces.{IsFlaw, IsUnclean, Spoils, WordsAreMarked}
use Rattle.acredact.specs.Pseudonyms.{hex_digit, piece_of_digest}
use Rattle.acredact.specs.Secrets.{NoneOccurs}
use Rattle.acredact.specs.Spelling.{NoneAreSpelled, is_inside, lies_inside}
use Rattle.acredact.specs.declared.clean.Flaw.{Flaw}
use Rattle.acredact.specs.declared.clean.Flaw.TheVariants.{Empty, Pseudonym, Spells}

-- a byte that a word does not hold is no member of it, but for the case rule
not_held : (ignore_case : Bool) (word : List ℕ) (other byte : ℕ) → holds_byte ignore_case word byte ≡ false → IsMember word other → folded_by ignore_case other ≡ folded_by ignore_case byte → ⊥
not_held ignore_case [] other byte none member same = absurd member
not_held ignore_case (x ∷ word) other byte none (inl is) same = grind arith
not_held ignore_case (x ∷ word) other byte none (inr there) same = not_held ignore_case word other byte (or_parts _ _ none).1 there same

-- what the first of some words is, and what they are where there is none
abbrev IsFirst : (List ℕ → Bool) → ℕ → List (List ℕ) → Option ℕ → Type 0
IsFirst test number words first = MatchOption first (All (λ word. test word ≡ false) words) (λ told. (at : ℕ) × (told ≡ at + number) × (at < length words) × (test (get_or words at []) ≡ true))

first_so : (test : List ℕ → Bool) (number : ℕ) (words : List (List ℕ)) → IsFirst test number words (first_number test number words)
first_so test number [] = All-nil (λ word. test word ≡ false)
first_so test number (word ∷ words) = by (test word) refl (first_number test (number + 1) words) (first_so test (number + 1) words)
  where
    by : (b : Bool) → test word ≡ b → (later : Option ℕ) → IsFirst test (number + 1) words later → IsFirst test number (word ∷ words) (if b then Some number else later)
    by true is later rest = (0, omega arith, omega arith, is)
    by false is None none = All-cons (λ w. test w ≡ false) word words is none
    by false is (Some told) (at, told_is, below, so) = (suc at, omega arith, omega arith, so)

-- a byte that is not marked is held by no word
module _ (ignore_case : Bool) (byte place : ℕ) (marks : List Bool) (is : place ≡ folded_by ignore_case byte) (not : get_or marks place false ≡ false) where
  not_marked : (word : List ℕ) → IsMarked ignore_case word marks → holds_byte ignore_case word byte ≡ false
  not_marked word marked =
      list_any_none (λ other. nat_eq (folded_by ignore_case other) (folded_by ignore_case byte)) word
      (All-weaker (λ other. get_or marks (folded_by ignore_case other) false ≡ true) (λ other. nat_eq (folded_by ignore_case other) (folded_by ignore_case byte) ≡ false) (λ other held. grind arith) word marked)

  pub unmarked : (number : ℕ) (words : List (Bor (List ℕ))) → WordsAreMarked ignore_case words marks → first_number (λ word. holds_byte ignore_case word byte) number (pieces_of words) ≡ None
  unmarked number [] marked = refl
  unmarked number (word ∷ words) marked =
      rw (not_marked word.now (All-head (λ w. IsMarked ignore_case w.now marks) word words marked))
      (unmarked (number + 1) words (All-tail (λ w. IsMarked ignore_case w.now marks) word words marked))

-- the last byte of a piece stands behind the others
last_of : (piece : List ℕ) → 0 < length piece → (front : List ℕ) × (piece ≡ front ++ get_or piece (length piece - 1) 0 ∷ [])
last_of piece some = let last = length piece - 1 in (take last piece, sym (take_all (last + 1) piece (omega arith)) ∙ take_more piece last 0 (omega (arith, some)))

module _ (p : Patterns) where
  -- what a test says of the words
  none_hold : (byte : ℕ) → ((number : ℕ) → number < length p.words → holds_byte p.ignore_case (pattern_at p number) byte ≡ false) → NoneHolds p byte
  none_hold byte none number other numbered member same = not_held p.ignore_case (pattern_at p number) other byte (none number numbered) member same

  one_holds : (byte number : ℕ) → number < length p.words → holds_byte p.ignore_case (pattern_at p number) byte ≡ true → NoneHolds p byte → ⊥
  one_holds byte number numbered held none =
      let (at, other, below, is, same) = Any-from_list_any (λ other. nat_eq (folded p other) (folded p byte)) (pattern_at p number) held in
      none number other numbered (subst (IsMember (pattern_at p number)) is (member-get_or (pattern_at p number) at other below)) (eqb-true (folded p other) (folded p byte) same)

  clean_from : (piece : List ℕ) → 0 < length piece → NoneHolds p (get_or piece 0 0) → NoneHolds p (get_or piece (length piece - 1) 0) → NoneOccurs p piece → IsCleanPiece p piece
  clean_from piece some first last none = record {
    some = some;
    first = λ byte rest is. subst (NoneHolds p) (ap (λ (l : List ℕ). get_or l 0 0) is) first;
    last = λ byte front is. let same : get_or piece (length piece - 1) 0 ≡ byte = grind (arith, common_steps) in subst (NoneHolds p) same last;
    none = none;
  }

  -- what has a flaw is not clean
  flawed : (piece : List ℕ) (flaw : Flaw) → IsFlaw p piece flaw → IsCleanPiece p piece → ⊥
  flawed piece Empty is clean = absurd (omega (arith, clean.some, ap length is))
  flawed piece Pseudonym is clean = absurd is
  flawed piece (Spells told) (some, number, is, numbered, inl held) clean = one_holds (get_or piece 0 0) number numbered held (clean.first _ _ (drop_more piece 0 0 some))
  flawed piece (Spells told) (some, number, is, numbered, inr (inl held)) clean = one_holds (get_or piece (length piece - 1) 0) number numbered held (clean.last _ _ (last_of piece some).1)
  flawed piece (Spells told) (some, number, is, numbered, inr (inr (m, occurs, named))) clean = clean.none m occurs

  module _ (ignore_case : Bool) (words : List (List ℕ)) (are : ArePatterns p ignore_case words) where
    -- what is said of words holds of the patterns
    first_is : (byte : ℕ) (answer : Option ℕ) → answer ≡ holder_in ignore_case words byte → IsFirst (λ word. holds_byte p.ignore_case word byte) 1 p.words answer
    first_is byte answer is = rw (are.rule, are.words_are) (subst (IsFirst (λ word. holds_byte ignore_case word byte) 1 words) (sym is) (first_so (λ word. holds_byte ignore_case word byte) 1 words))

    -- a pattern holds a byte, and so spoils a piece
    pub spells : (piece : List ℕ) (byte told : ℕ) → 0 < length piece → Some told ≡ holder_in ignore_case words byte → ((number : ℕ) → holds_byte p.ignore_case (pattern_at p number) byte ≡ true → Spoils p piece number)
        → IsFlaw p piece (Spells told)
    spells piece byte told some is spoils =
        let (number, is_told, numbered, held) = first_is byte (Some told) is in (some, number, is_told, numbered, spoils number held)

    -- none holds either, and nothing occurs
    pub clean_by : (piece : List ℕ) → 0 < length piece → None ≡ holder_in ignore_case words (get_or piece 0 0) → None ≡ holder_in ignore_case words (get_or piece (length piece - 1) 0) → NoneOccurs p piece → IsCleanPiece p piece
    clean_by piece some first last none =
        let free : (byte : ℕ) → None ≡ holder_in ignore_case words byte → NoneHolds p byte = λ byte is. none_hold byte (λ number. first_is byte None is number []) in
        clean_from piece some (free (get_or piece 0 0) first) (free (get_or piece (length piece - 1) 0) last) none

module _ (p : Patterns) (pieces : List (Bor (List ℕ))) where
  -- the pieces before a place are clean
  abbrev pub AreCleanTo : ℕ → Type 0
  AreCleanTo at = (number : ℕ) → number < at → IsCleanPiece p (get_or (pieces_of pieces) number [])

  pub clean_next : (at : ℕ) (d : Bor (List ℕ)) → at < length pieces → AreCleanTo at → IsCleanPiece p (get_or pieces at d).now → AreCleanTo (at + 1)
  clean_next at d below before here = below_more _ at before (subst (IsCleanPiece p) (sym (get_or-map (λ (piece : Bor (List ℕ)). piece.now) pieces at d [] below)) here)

  -- the first that is not
  pub unclean_at : (at : ℕ) (d : Bor (List ℕ)) (flaw : Flaw) → at < length pieces → length pieces ≡ length p.words → AreCleanTo at → IsFlaw p (get_or pieces at d).now flaw
      → IsUnclean p (pieces_of pieces) (record { number = at + 1; flaw = flaw })
  unclean_at at d flaw below count before of =
      let here : IsFlaw p (get_or (pieces_of pieces) at []) flaw = subst (λ (piece : List ℕ). IsFlaw p piece flaw) (sym (get_or-map (λ (piece : Bor (List ℕ)). piece.now) pieces at d [] below)) of in
      record { number = at; told = refl; numbered = omega (arith, below, count); before = before; flaw = here; is_not = flawed p (get_or (pieces_of pieces) at []) flaw here }

-- each byte of a pseudonym, as it is compared, is its first, its last or one inside
abbrev is_of_piece : ℕ → Bool
is_of_piece byte = nat_eq byte 91 || nat_eq byte 93 || is_inside byte

hex_of_piece : (ignore_case : Bool) (byte : ℕ) → is_of_piece (folded_by ignore_case (hex_digit byte)) ≡ true
hex_of_piece ignore_case byte = let below : byte % 16 < 16 = mod-lt byte (omega arith) in grind (arith, nat_tests)

piece_all : (ignore_case : Bool) (digest : List ℕ) → list_all (λ byte. is_of_piece (folded_by ignore_case byte)) (piece_of_digest digest) ≡ true
piece_all true digest = simp (hex_of_piece true) refl
piece_all false digest = simp (hex_of_piece false) refl

-- a word of such bytes that does not hold the first or the last lies inside
all_inside : (ignore_case : Bool) (word : List ℕ) → holds_byte ignore_case word 91 ≡ false → holds_byte ignore_case word 93 ≡ false → list_all is_of_piece (map (folded_by ignore_case) word) ≡ true → lies_inside ignore_case word ≡ true
all_inside ignore_case [] first last all = refl
all_inside true (x ∷ word) first last all = let later : lies_inside true word ≡ true = all_inside true word (or_parts _ _ first).1 (or_parts _ _ last).1 (and_parts _ _ all).1 in grind arith
all_inside false (x ∷ word) first last all = let later : lies_inside false word ≡ true = all_inside false word (or_parts _ _ first).1 (or_parts _ _ last).1 (and_parts _ _ all).1 in grind arith

module _ (p : Patterns) (unlike : NoneAreSpelled p.ignore_case p.words) where
  -- no pattern holds the first byte of a pseudonym or the last, or lies inside
  unlike_each : (number : ℕ) → number < length p.words → (holds_byte p.ignore_case (pattern_at p number) 91 ≡ false) × (holds_byte p.ignore_case (pattern_at p number) 93 ≡ false) × (lies_inside p.ignore_case (pattern_at p number) ≡ false)
  unlike_each number numbered =
      let word = pattern_at p number in
      let none : may_be_spelled p.ignore_case word ≡ false = subst (IsFirst (may_be_spelled p.ignore_case) 1 p.words) unlike (first_so (may_be_spelled p.ignore_case) 1 p.words) number [] numbered in
      grind (arith, or_parts)

  -- nothing occurs in a pseudonym
  none_within : (piece : List ℕ) → list_all (λ byte. is_of_piece (folded p byte)) piece ≡ true → NoneOccurs p piece
  none_within piece are m occurs =
      let part = slice_range piece m.start m.end in
      let (no_first, no_last, outside) = unlike_each m.pattern occurs.numbered in
      let IsOf = λ (byte : ℕ). is_of_piece (folded p byte) ≡ true in
      let of_part = All-take IsOf (m.end - m.start) (drop m.start piece) (All-drop IsOf m.start piece (AllPass-from_list_all (λ byte. is_of_piece (folded p byte)) piece are)) in
      let all : list_all is_of_piece (folded_word p (pattern_at p m.pattern)) ≡ true = ap (list_all is_of_piece) occurs.same ∙ list_all-map is_of_piece (folded p) part ∙ list_all-from_AllPass (λ byte. is_of_piece (folded p byte)) part of_part in
      both_ways _ outside (all_inside p.ignore_case (pattern_at p m.pattern) no_first no_last all)

  -- each pseudonym is clean
  pub pseudonyms_clean : (ignore_case : Bool) (key : List ℕ) (number : ℕ) (bytes : List ℕ) → number < length p.words → IsCleanPiece p (pseudonym_rule ignore_case key number bytes)
  pseudonyms_clean ignore_case key number bytes numbered =
      let digest = hmac_sha256 key (as_compared ignore_case bytes) in
      clean_from p (piece_of_digest digest) (omega arith) (none_hold p 91 (λ other there. (unlike_each other there).0)) (none_hold p 93 (λ other there. (unlike_each other there).1)) (none_within _ (piece_all p.ignore_case digest))

module _ (p : Patterns) where
  module _ (haystack some : List ℕ) (some_clean : IsCleanPiece p some) where
    -- where nothing occurs by one clean piece, whichever it is, nothing does by those of the runs
    free-from : (runs : List Occurrence) (at : ℕ) (piece : Occurrence → List ℕ) → ((run : Occurrence) → IsMember runs run → IsCleanPiece p (piece run))
        → ((same : List ℕ) → IsCleanPiece p same → NoneOccurs p (replaced_from haystack at runs (λ run. same))) → NoneOccurs p (replaced_from haystack at runs piece)
    free-from [] at piece clean free = free some some_clean
    free-from (run ∷ runs) at piece clean free =
        let front = slice_range haystack at run.start in
        let rest = replaced_from haystack run.end runs piece in
        let alone = replaced_from haystack run.end runs (λ other. piece run) in
        let here = clean run (inl refl) in
        let before : NoneOccurs p ((front ++ piece run) ++ alone) = subst (NoneOccurs p) (sym (append_assoc front (piece run) alone)) (free (piece run) here) in
        let later = free-from runs run.end piece (λ other there. clean other (inr there)) (λ same is m occurs. free same is _ (Occurs-of_right p front _ _ (Occurs-of_right p same _ m occurs))) in
        let end = last_of (piece run) here.some in
        let seam = clear_joined p _ (front ++ piece run) rest (here.last _ end.0 end.1) (front ++ end.0, ap (λ (l : List ℕ). front ++ l) end.1 ∙ sym (append_assoc front end.0 _)) in
        subst (NoneOccurs p) (append_assoc front (piece run) rest) (λ m occurs.
        elim (seam m occurs) [
          | inl first ↦ before m (Occurs-of_left p (front ++ piece run) alone m (Occurs-left p (front ++ piece run) rest m first occurs))
          | inr behind ↦ later (moved_back (length (front ++ piece run)) m) (Occurs-right p (front ++ piece run) rest m behind occurs)
        ])

  -- nothing occurs in the cover
  pub made-free : (rule : PieceRule) → ((number : ℕ) (bytes : List ℕ) → number < length p.words → IsCleanPiece p (rule number bytes)) → (haystack : List ℕ) (runs : List Occurrence) → AreRuns p haystack runs
      → NoneOccurs p (replaced_by haystack runs (piece_in rule haystack))
  made-free rule clean haystack runs are m occurs =
      let numbered : (run : Occurrence) → IsMember runs run → run.pattern < length p.words = λ run there. (let is_run = (are.members run).0 there in omega (arith, is_run.named, is_run.longest_is.0.0.numbered)) in
      free-from haystack (rule m.pattern []) (clean m.pattern [] occurs.numbered) runs 0 (piece_in rule haystack) (λ run there. clean run.pattern (slice_range haystack run.start run.end) (numbered run there))
      (λ same is.
      let alike = replicate (length p.words) same in
      let there : (number : ℕ) → number < length p.words → get_or alike number [] ≡ same = λ number below. get_or-replicate (length p.words) number same [] below in
      subst (NoneOccurs p) (replaced_from-same haystack runs 0 (λ run. slice_index_or alike run.pattern []) (λ run. same) (λ run member. there run.pattern (numbered run member)))
      (cover-free p alike (λ number below. subst (IsCleanPiece p) (sym (there number below)) is) haystack (replaced haystack runs alike) (runs, are, refl))) m occurs
