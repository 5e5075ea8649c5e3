-- What the parts of a command's text are together.
use Rattle.std.proofs.Common.{◌≡◌, ℕ, ◌+◌, ◌<◌, ◌≤◌, Bool, true, false, cond, not, ◌||◌, List, [], ◌∷◌, ◌++◌, Option, None, Some, Ok, Err, inl, inr, length, drop, refl, sym, ap, ◌∙◌, add-zero, arith, append_assoc, append-nil, length-append}
use Rattle.std.proofs.lemmas.Bool.{false≢true}
use Rattle.std.proofs.lemmas.Grind.{flat_map-append}
use Rattle.std.proofs.lemmas.List.{drop_at}
use Rattle.std.specs.List.{list_all, flat_map, prefix_len, take_while}
use Rattle.up_text.proofs.GapTexts.{gap-after, gap-spaces}
use Rattle.up_text.proofs.Readings.{prefix_len-front, place-after, filled-front}
use Rattle.up_text.proofs.Runs.{Holds-same, feeds-append, feeds-length}
use Rattle.up_text.proofs.Tidying.{GoesOn, trim_end_blanks-front, trim_end_blanks-after, take_while-after, spelled-kept, spaces-kept, kept-both, kept-all, statement-after, statement-ends, statement-goes_on}
use Rattle.up_text.specs.CommandParts.{marks_in, command_marks, trim_end_blanks, is_kept, Between, Told, Refused}
use Rattle.up_text.specs.Commands.{command_marks_at, trim_blanks, ReadsCommand}
use Rattle.up_text.specs.Lexer.{place, begins_joint, is_line_end, is_spelling, begins_gap, ends_token, GapRun, Run, Broken, mark_bytes}
use Rattle.up_text.specs.Places.{fault_in, feeds, is_space, is_stop, command_bytes}
use Rattle.up_text.specs.Tokens.{Mark, Part, Quoting, Folded, Alone, Blank, Passed, Stop, Fail, Outside, is_blank, is_hash}
use Rattle.up_value.specs.declared.fault.TextFault.{TextFault}
use Rattle.up_value.specs.declared.fault.TextFault.TheVariants.{Memory}

-- a spelling and the gap after it
word-tidy : (text rest : List ℕ) (front spaces : List Mark) → marks_in text ≡ (front ++ spaces) ++ marks_in rest → list_all is_spelling front ≡ true → list_all is_space spaces ≡ true → begins_gap false rest ≡ false
    → trim_end_blanks (command_marks text) ≡ (front ++ cond (is_line_end rest) [] spaces) ++ trim_end_blanks (command_marks rest)
word-tidy text rest front spaces same spelled blank ends = by_case (is_line_end rest) refl
  where
    statement : command_marks text ≡ (front ++ spaces) ++ command_marks rest
    statement = statement-after text rest (front ++ spaces) same (kept-both front spaces (spelled-kept front spelled) (spaces-kept spaces blank))

    goes_on : (later : List Mark) → command_marks rest ≡ later → GoesOn later → trim_end_blanks (command_marks text) ≡ (front ++ spaces) ++ trim_end_blanks later
    goes_on later is on =
        ap trim_end_blanks (statement ∙ ap (λ ms. (front ++ spaces) ++ ms) (is ∙ on.is))
        ∙ trim_end_blanks-front (front ++ spaces) on.mark on.later on.solid
        ∙ ap (λ ms. (front ++ spaces) ++ trim_end_blanks ms) (sym on.is)

    by_case : (end : Bool) → is_line_end rest ≡ end → trim_end_blanks (command_marks text) ≡ (front ++ cond end [] spaces) ++ trim_end_blanks (command_marks rest)
    by_case true e =
        let none : command_marks rest ≡ [] = statement-ends rest e in
        ap trim_end_blanks (statement ∙ ap (λ ms. (front ++ spaces) ++ ms) none ∙ append-nil (front ++ spaces))
        ∙ trim_end_blanks-after front spaces spelled blank
        ∙ sym (append-nil front)
        ∙ sym (append-nil (front ++ []))
        ∙ ap (λ ms. (front ++ []) ++ trim_end_blanks ms) (sym none)
    by_case false e = goes_on (command_marks rest) refl (statement-goes_on rest e ends)

pub Told-word : {text middle rest : List ℕ} {line crossed reached : ℕ} {old half new : Option (List ℕ)}
    → Run false true (Outside false) text line (Outside false) middle crossed old half → Between middle crossed rest reached half new → Told text line rest reached old new
Told-word {text} {middle} {rest} {line} {crossed} {reached} {old} {half} {new} run gap =
    let same : marks_in text ≡ (run.front ++ gap.front) ++ marks_in rest = run.same 0 ∙ ap (λ ms. run.front ++ ms) gap.same ∙ sym (append_assoc run.front gap.front (marks_in rest)) in
    record {
      bytes = run.bytes ++ gap.bytes;
      front = run.front ++ gap.front;
      told = run.front ++ cond (is_line_end rest) [] gap.front;
      joined = run.joined ∙ ap (λ bs. run.bytes ++ bs) gap.joined ∙ sym (append_assoc run.bytes gap.bytes rest);
      same = same;
      long = length-append run.front gap.front ∙ (rw (run.long, gap.long) (sym (length-append run.bytes gap.bytes)));
      kept = kept-both run.front gap.front (spelled-kept run.front run.spelled) (spaces-kept gap.front gap.spaces);
      counted = omega (arith, run.counted, gap.counted, feeds-append run.bytes gap.bytes);
      tidy = word-tidy text rest run.front gap.front same run.spelled gap.spaces gap.ends;
      pushed = λ held holds. Holds-same new ((held ++ flat_map (mark_bytes true) run.front) ++ cond (is_line_end rest) [] (flat_map command_bytes gap.front)) _
          (append_assoc held (flat_map (mark_bytes true) run.front) _ ∙ ap (λ bs. held ++ bs) (mark_bytes-both (is_line_end rest)))
          (gap.pushed _ (run.pushed held holds));
    }
  where
    mark_bytes-both : (end : Bool) → flat_map command_bytes run.front ++ cond end [] (flat_map command_bytes gap.front) ≡ flat_map command_bytes (run.front ++ cond end [] gap.front)
    mark_bytes-both true = sym (flat_map-append command_bytes run.front [])
    mark_bytes-both false = sym (flat_map-append command_bytes run.front gap.front)

pub Told-then : {text middle rest : List ℕ} {line crossed reached : ℕ} {old half new : Option (List ℕ)} → Told text line middle crossed old half → Told middle crossed rest reached half new → Told text line rest reached old new
Told-then {text} {middle} {rest} {line} {crossed} {reached} {old} {half} {new} a b = record {
  bytes = a.bytes ++ b.bytes;
  front = a.front ++ b.front;
  told = a.told ++ b.told;
  joined = a.joined ∙ ap (λ xs. a.bytes ++ xs) b.joined ∙ sym (append_assoc a.bytes b.bytes rest);
  same = a.same ∙ ap (λ ms. a.front ++ ms) b.same ∙ sym (append_assoc a.front b.front (marks_in rest));
  long = length-append a.front b.front ∙ (rw (a.long, b.long) (sym (length-append a.bytes b.bytes)));
  kept = kept-both a.front b.front a.kept b.kept;
  counted = omega (arith, a.counted, b.counted, feeds-append a.bytes b.bytes);
  tidy = a.tidy ∙ ap (λ ms. a.told ++ ms) b.tidy ∙ sym (append_assoc a.told b.told (trim_end_blanks (command_marks rest)));
  pushed = λ held holds. Holds-same new ((held ++ flat_map command_bytes a.told) ++ flat_map command_bytes b.told) (held ++ flat_map command_bytes (a.told ++ b.told))
      (append_assoc held (flat_map command_bytes a.told) (flat_map command_bytes b.told) ∙ ap (λ xs. held ++ xs) (sym (flat_map-append command_bytes a.told b.told)))
      (b.pushed (held ++ flat_map command_bytes a.told) (a.pushed held holds));
}

pub Told-none : (text : List ℕ) (line : ℕ) (out : Option (List ℕ)) → Told text line text line out out
Told-none text line out = record {
  bytes = [];
  front = [];
  told = [];
  joined = refl;
  same = refl;
  long = refl;
  kept = refl;
  counted = sym (add-zero line);
  tidy = refl;
  pushed = λ held holds. Holds-same out held (held ++ []) (sym (append-nil held)) holds;
}

-- a fault after a part
pub Refused-then : {text middle : List ℕ} {line crossed : ℕ} {old half : Option (List ℕ)} {fault : TextFault} → Told text line middle crossed old half → Broken false (Outside false) middle fault → Refused text fault
Refused-then {fault} a b = record {
  front = a.front ++ b.front;
  same = a.same ∙ ap (λ ms. a.front ++ ms) (b.same 0) ∙ sym (append_assoc a.front b.front (Fail fault ∷ []));
  kept = kept-both a.front b.front a.kept (spelled-kept b.front b.spelled);
}

-- how much text is left

pub Told-fits : {text rest : List ℕ} {line reached : ℕ} {old new : Option (List ℕ)} → Told text line rest reached old new → (reached + length rest ≤ line + length text) × (length rest ≤ length text)
Told-fits {text} {rest} a = (omega (arith, feeds-length a.bytes, a.counted, ap length a.joined, length-append a.bytes rest), omega (arith, ap length a.joined, length-append a.bytes rest))

-- where a word begins
pub begins-word : (text : List ℕ) → is_line_end text ≡ false → begins_gap false text ≡ false → ends_token false text ≡ false
begins-word [] within after = absurd (false≢true (sym within))
begins-word (byte ∷ text) within after = rw within (by_case (is_blank byte) (is_hash byte) (begins_joint (byte ∷ text)) after)
  where
    by_case : (b h j : Bool) → ((b || h || j) || false) ≡ false → ((false || b || h || j) || false) ≡ false
    by_case true h j is = absurd (false≢true (sym is))
    by_case false true j is = absurd (false≢true (sym is))
    by_case false false true is = absurd (false≢true (sym is))
    by_case false false false is = refl

-- the gap before a command

lead-trim_blanks : (spaces statement : List Mark) → list_all is_space spaces ≡ true → prefix_len is_space statement ≡ 0 → trim_blanks (spaces ++ statement) ≡ trim_end_blanks statement
lead-trim_blanks spaces statement blank none =
    ap (λ n. trim_end_blanks (drop n (spaces ++ statement))) (prefix_len-front is_space spaces statement blank none) ∙ ap trim_end_blanks (drop_at spaces statement (length spaces) refl)

statement-starts : (rest : List ℕ) → begins_gap false rest ≡ false → prefix_len is_space (command_marks rest) ≡ 0
statement-starts rest after = by_case (is_line_end rest) refl
  where
    goes_on : GoesOn (command_marks rest) → prefix_len is_space (command_marks rest) ≡ 0
    goes_on on = ap (prefix_len is_space) on.is ∙ solid-first on.mark on.later on.solid
      where
        solid-first : (mark : Mark) (later : List Mark) → is_space mark ≡ false → prefix_len is_space (mark ∷ later) ≡ 0
        solid-first mark later solid = rw solid refl

    by_case : (end : Bool) → is_line_end rest ≡ end → prefix_len is_space (command_marks rest) ≡ 0
    by_case true e = ap (prefix_len is_space) (statement-ends rest e)
    by_case false e = goes_on (statement-goes_on rest e after)

kept-fault : (front later : List Mark) → list_all is_kept front ≡ true → fault_in (front ++ later) ≡ fault_in later
kept-fault [] later all = refl
kept-fault (Part byte ∷ front) later all = kept-fault front later all
kept-fault (Quoting byte ∷ front) later all = kept-fault front later all
kept-fault (Folded ∷ front) later all = kept-fault front later all
kept-fault (Fail fault ∷ front) later all = absurd (false≢true all)
kept-fault (Alone byte ∷ front) later all = absurd (false≢true all)
kept-fault (Blank byte ∷ front) later all = kept-fault front later all
kept-fault (Passed ∷ front) later all = kept-fault front later all
kept-fault (Stop ∷ front) later all = absurd (false≢true all)

-- the whole command

record Whole (text : List ℕ) (line : ℕ) (rest : List ℕ) (reached : ℕ) (told : List Mark) : Type 0 where
  bytes : List ℕ
  joined : text ≡ bytes ++ rest
  long : length (command_marks text) ≡ length bytes
  counted : reached ≡ line + feeds bytes
  sound : fault_in (command_marks text) ≡ None
  is : trim_blanks (command_marks text) ≡ told

whole : (text middle rest : List ℕ) (line crossed reached : ℕ) (old new : Option (List ℕ)) → GapRun true false 0 false text line middle crossed → begins_gap false middle ≡ false → (told : Told middle crossed rest reached old new) → is_line_end rest ≡ true
    → Whole text line rest reached told.told
whole text middle rest line crossed reached old new run after told end =
    let spaces = gap-spaces run.front run.gaps in
    let none : command_marks rest ≡ [] = statement-ends rest end in
    let lead : command_marks text ≡ run.front ++ command_marks middle = statement-after text middle run.front (gap-after text middle line crossed run after) (spaces-kept run.front spaces) in
    let statement : command_marks text ≡ run.front ++ told.front =
    lead ∙ ap (λ ms. run.front ++ ms) (statement-after middle rest told.front told.same told.kept ∙ ap (λ ms. told.front ++ ms) none ∙ append-nil told.front) in
    record {
      bytes = run.bytes ++ told.bytes;
      joined = run.is_text ∙ ap (λ bs. run.bytes ++ bs) told.joined ∙ sym (append_assoc run.bytes told.bytes rest);
      long = ap length statement ∙ length-append run.front told.front ∙ (rw (run.long, told.long) (sym (length-append run.bytes told.bytes)));
      counted = omega (arith, run.counted, told.counted, feeds-append run.bytes told.bytes);
      sound = ap fault_in (statement ∙ sym (append-nil (run.front ++ told.front))) ∙ kept-fault (run.front ++ told.front) [] (kept-both run.front told.front (spaces-kept run.front spaces) told.kept);
      is =
          ap trim_blanks lead
          ∙ lead-trim_blanks run.front (command_marks middle) spaces (statement-starts middle after)
          ∙ told.tidy
          ∙ ap (λ ms. told.told ++ trim_end_blanks ms) none
          ∙ append-nil told.told;
    }

-- what reading it answers

pub Command-read : (text middle rest : List ℕ) (line crossed reached : ℕ) (inside parens : Bool) (depth : ℕ) (old new : Option (List ℕ)) → GapRun true false 0 false text line middle crossed → begins_gap false middle ≡ false
    → (told : Told middle crossed rest reached old new) → is_line_end rest ≡ true → (bytes : List ℕ) → bytes ≡ flat_map command_bytes told.told
    → ReadsCommand (place text line inside parens depth) (Ok bytes) (place rest reached inside parens depth)
unfolding command_marks_at
Command-read text middle rest line crossed reached inside parens depth old new run after told end bytes are =
    let is = whole text middle rest line crossed reached old new run after told end in
    rw is.sound
    (inl (ap Ok (are ∙ ap (flat_map command_bytes) (sym is.is)), sym (place-after text is.bytes rest line inside parens depth (length (command_marks text)) reached is.joined is.long is.counted)))

pub Command-memory : (text middle rest : List ℕ) (line crossed reached : ℕ) (inside parens : Bool) (depth : ℕ) (old new : Option (List ℕ)) → GapRun true false 0 false text line middle crossed → begins_gap false middle ≡ false
    → Told middle crossed rest reached old new → is_line_end rest ≡ true
    → ReadsCommand (place text line inside parens depth) (Err Memory) (place text line inside parens depth)
unfolding command_marks_at
Command-memory text middle rest line crossed reached inside parens depth old new run after told end =
    let is = whole text middle rest line crossed reached old new run after told end in
    rw is.sound (inr (refl, refl))

pub Command-refused : (text middle : List ℕ) (line crossed : ℕ) (inside parens : Bool) (depth : ℕ) (fault : TextFault) → GapRun true false 0 false text line middle crossed → begins_gap false middle ≡ false → Refused middle fault
    → ReadsCommand (place text line inside parens depth) (Err fault) (place text line inside parens depth)
unfolding command_marks_at
Command-refused text middle line crossed inside parens depth fault run after refused =
    let spaces = spaces-kept run.front (gap-spaces run.front run.gaps) in
    let last : command_marks middle ≡ refused.front ++ Fail fault ∷ [] =
    ap (take_while (λ m. not (is_stop m))) refused.same ∙ take_while-after (λ m. not (is_stop m)) refused.front (Fail fault ∷ []) (kept-all refused.front refused.kept) in
    let statement : command_marks text ≡ run.front ++ (refused.front ++ Fail fault ∷ []) =
    statement-after text middle run.front (gap-after text middle line crossed run after) spaces ∙ ap (λ ms. run.front ++ ms) last in
    let found : fault_in (command_marks text) ≡ Some fault =
    ap fault_in statement ∙ kept-fault run.front (refused.front ++ Fail fault ∷ []) spaces ∙ kept-fault refused.front (Fail fault ∷ []) refused.kept in
    rw found (refl, refl)
