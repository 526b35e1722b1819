-- What comes of files that are looked at, one after another.
use Rattle.acredact.proofs.Common.{All, All-append, All-cons, All-nil, All-weaker, BeginsLook, BeginsWriting, Bool, Err, Errors, Failure, IfOk, IfOk-weaker, IsUnreadLine, Keeps-refl, List, Look, LookedText, Ok, Option, Result, SeesFiles, SinkGhosts, Sought, Tells, TellsBytes, Verdict, [], and-true, and_assoc, and_parts, ap, append-nil, are_none, both_seen, concat, false, inl, inr, lines_findings, or-false, or_assoc, output_line, refl, stream_lines, subst, sym, tells-later, tells-nothing, true, unread_line, verdict_as, ℕ, ◌&&◌, ◌++◌, ◌||◌, ◌∙◌, ◌∷◌, ◌≡◌}
use Rattle.std.proofs.Math.Seq.{take-length}
use Rattle.std.specs.Io.{StartsWith}
use Rattle.acredact.specs.Checks.{IsLookOf, LookedNamed, MayBeTold, Quest}
use Rattle.acredact.specs.Looks.{BeginsToTell, IsLook, IsReadLook, IsSeen, look_lines, verdict_of}
use Rattle.acredact.specs.declared.look.Look.TheVariants.{Clean, Found, Output, Unread}
use Rattle.acredact.proofs.Calls.{tells_same}
use Rattle.acredact.proofs.Done.{concat_both, none_both}
use Rattle.acredact.proofs.Hiding.{named_as}
use Rattle.acredact.proofs.OneFile.{IsFileRead, begun_nothing, each_none, known_begun, name_unread}
use Rattle.acredact.proofs.Redactions.{all_of}
use Rattle.acredact.proofs.Turns.{Joins, also}

-- what was seen of a text begins what tells of it
seen_begins : (s : Sought) (name : List ℕ) (found : Bool) (given : List ℕ) (ended : Bool) (part : List ℕ) → IsSeen s name found given ended part → BeginsToTell s name given ended part
seen_begins (inl r) name found given ended part seen = tt
seen_begins (inr s) name found given ended part seen = record {
  lines = stream_lines given;
  runs = seen.runs;
  are = seen.are;
  first = λ bytes may. ([], ap stream_lines (all_of given bytes (rw seen.whole at may)) ∙ sym (append-nil (stream_lines given)));
  begins = subst (StartsWith (lines_findings s.labels name 1 seen.runs)) (sym seen.told) (take-length (lines_findings s.labels name 1 seen.runs));
}

-- and so does what it was found to be
look_begun : (s : Sought) (name : List ℕ) (look : Look) (given : List ℕ) (ended : Bool) (part : List ℕ) → IsLook s name look given ended part → BeginsToTell s name given ended part
look_begun s name Clean given ended part is = seen_begins s name false given ended part is
look_begun s name Found given ended part is = seen_begins s name true given ended part is
look_begun s name look given ended part is = is

none_begins : (s : Sought) (name : List ℕ) → BeginsToTell s name [] false []
none_begins (inl r) name = tt
none_begins (inr s) name = record { lines = []; runs = []; are = tt; first = λ bytes may. (stream_lines bytes, refl); begins = refl }

module _ (quest : Quest) (name : List ℕ) where
  -- nothing was read
  pub look_none : (left held : Option (List ℕ)) → BeginsLook quest name left left held held
  look_none left held = name_unread quest.holds name (λ l l'. BeginsWriting (BeginsToTell quest.sought name) l l' held held) left (λ l. begun_nothing (BeginsToTell quest.sought name) (none_begins quest.sought name) l held)

  -- the file is that of the input, or of the folder
  pub looked_file : (result : Result Look Failure) (held held' : Option (List ℕ)) {given rest left left' : Option (List ℕ)} → IsFileRead quest.holds name given rest left left' → IfOk result IsReadLook
      → LookedText quest.sought name result given rest held held' → LookedNamed quest name result left left' held held'
  looked_file result held held' {given} {rest} {left} {left'} file why text =
      (IfOk-weaker result IsReadLook (MayBeTold quest name) (λ look read. inl read) why, file.of (λ l l'. LookedText quest.sought name result l l' held held') (known_begun file.known given rest held held' file.kept text))

  -- and what was seen of it begins what tells of it
  look_begins : (look : Look) (left left' held held' : Option (List ℕ)) → IsLookOf quest name look left left' held held' → BeginsLook quest name left left' held held'
  look_begins look left left' held held' is =
      named_as quest.holds name (λ l l'. LookedText quest.sought name (Ok look) l l' held held') (λ l l'. BeginsWriting (BeginsToTell quest.sought name) l l' held held')
      (λ l l' text. record { given = text.given; ended = text.ended; read = text.read; at_end = text.at_end; is = (text.is.0, look_begun quest.sought name look text.given text.ended text.is.0 text.is.1, text.is.2) }) left left' is.1

-- each line that is told of a file tells why it is not read
lines_unread : (name : List ℕ) (names : List (List ℕ)) (look : Look) → All (IsUnreadLine (name ∷ names)) (look_lines name look)
lines_unread name names (Unread reason) = All-cons (IsUnreadLine (name ∷ names)) (unread_line name reason) [] (name, inl refl, inl (reason, refl)) (All-nil (IsUnreadLine (name ∷ names)))
lines_unread name names Output = All-cons (IsUnreadLine (name ∷ names)) (output_line name) [] (name, inl refl, inr refl) (All-nil (IsUnreadLine (name ∷ names)))
lines_unread name names look = All-nil (IsUnreadLine (name ∷ names))

-- a look tells nothing just where it comes to an end
none_told : (name : List ℕ) (look : Look) → (verdict_of look).all ≡ are_none (look_lines name look)
none_told name Clean = refl
none_told name look = refl

-- what is seen of some and of others
abbrev pub verdicts_joined : Joins Verdict
verdicts_joined = record {
  both = λ first more. both_seen first more;
  none = verdict_as false true;
  first = λ verdict. refl;
  last = λ verdict. ap (λ (b : Bool). verdict_as b (verdict.all && true)) (or-false verdict.found) ∙ ap (verdict_as verdict.found) (and-true verdict.all);
  assoc = λ a b c. ap (λ (found : Bool). verdict_as found ((a.all && b.all) && c.all)) (or_assoc a.found b.found c.found) ∙ ap (verdict_as (a.found || (b.found || c.found))) (and_assoc a.all b.all c.all);
}

-- what the input has left, what the output holds, and what was told
abbrev pub SeenState : Type 0 → Type 0
SeenState E = Option (List ℕ) × Option (List ℕ) × Errors E

module _ {E : Type 0} (K : SinkGhosts E) (quest : Quest) where
  abbrev pub ComesOfLooks : List (List ℕ) → Result Verdict Failure → (old new : SeenState E) → Type 0
  ComesOfLooks names result old new = SeesFiles K quest names result old.0 new.0 old.1 new.1 old.2 new.2

  -- what is told of a file, and then of others
  abbrev both_told : (name : List ℕ) (names : List (List ℕ)) (look : Look) (old mid new : Errors E) → TellsBytes K old mid (concat (look_lines name look)) → Tells K (IsUnreadLine names) mid new → Tells K (IsUnreadLine (name ∷ names)) old new
  both_told name names look old mid new told more = record {
    told = look_lines name look ++ more.told;
    are_lines = All-append (IsUnreadLine (name ∷ names)) (look_lines name look) more.told (lines_unread name names look) (All-weaker (IsUnreadLine names) (IsUnreadLine (name ∷ names)) (λ line is. (is.0, inr is.1, is.2)) more.told more.are_lines);
    written = subst (TellsBytes K old new) (sym (concat_both (look_lines name look) more.told)) (tells-later K told more.written);
  }

  module _ {name : List ℕ} {names : List (List ℕ)} (look : Look) {old mid : SeenState E} (looks : IsLookOf quest name look old.0 mid.0 old.1 mid.1) (told : TellsBytes K old.2 mid.2 (concat (look_lines name look)))
      (quiet : (verdict_of look).all ≡ true → mid.2 ≡ old.2) where
    -- what comes of a file, and then of others
    pub looks_more : (result : Result Verdict Failure) (end : SeenState E) → ComesOfLooks names result mid end → ComesOfLooks (name ∷ names) (also verdicts_joined (verdict_of look) result) old end
    looks_more (Ok verdict) end more =
        let (is_all, untold, seen) = more.seen in
        record {
          told = both_told name names look old.2 mid.2 end.2 told more.told;
          begun = (mid.0, mid.1, look_begins quest name look old.0 mid.0 old.1 mid.1 looks, more.begun);
          seen = (
            none_both (look_lines name look) more.told.told (verdict_of look).all verdict.all ((verdict_of look).all && verdict.all) (none_told name look) is_all refl,
            λ all. let both = and_parts (verdict_of look).all verdict.all all in untold both.1 ∙ quiet both.0,
            (look, verdict.found, more.told.told, refl, refl, mid.0, mid.1, looks, seen),
          );
        }
    looks_more (Err failure) end more = record {
      told = both_told name names look old.2 mid.2 end.2 told more.told;
      begun = (mid.0, mid.1, look_begins quest name look old.0 mid.0 old.1 mid.1 looks, more.begun);
      seen = tt;
    }

  -- of none
  pub looks_of_none : {old : SeenState E} → ComesOfLooks [] (Ok verdicts_joined.none) old old
  looks_of_none {old} = record {
    told = record { told = []; are_lines = All-nil (IsUnreadLine []); written = tells-nothing K old.2 };
    begun = (refl, Keeps-refl old.1);
    seen = (refl, λ all. refl, (refl, refl, refl, Keeps-refl old.1));
  }

  -- a look fails
  pub looks_failed : {name : List ℕ} {names : List (List ℕ)} {failure : Failure} {old : SeenState E} {left held : Option (List ℕ)} → BeginsLook quest name old.0 left old.1 held → ComesOfLooks (name ∷ names) (Err failure) old (left, held, old.2)
  looks_failed {name} {names} {failure} {old} {left} {held} begun = record {
    told = tells_same K (IsUnreadLine (name ∷ names)) old.2 old.2 refl;
    begun = (left, held, begun, each_none (BeginsLook quest) (look_none quest) names left held);
    seen = tt;
  }
