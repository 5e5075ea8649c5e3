-- What is printed of faults, with what is said of each.
use Rattle.std.proofs.Common.{◌≡◌, ℕ, ◌+◌, ◌<◌, List, [], ◌∷◌, ◌++◌, length, take, get_or, ◌∙◌, ap, sym, refl, subst, append_assoc}
use Rattle.std.proofs.lemmas.List.{append-nil, take_more}
use Rattle.up_print.specs.Advice.{advice_lines}
use Rattle.up_conf.specs.declared.folder.File.{File}
use Rattle.up_conf.specs.declared.report.Fault.{Fault}
use Rattle.up_print.specs.Folders.{Explains, fault_line}

-- one fault more
pub explains-snoc : (files : List File) (report : List Fault) (fault : Fault) (text said : List ℕ) → Explains files report text
    → Explains files (report ++ fault ∷ []) (text ++ (fault_line fault ++ advice_lines said files fault))
explains-snoc files [] fault text said is =
    let added : List ℕ = fault_line fault ++ advice_lines said files fault in
    (said, [], refl, ap (λ it. it ++ added) is ∙ sym (append-nil added))
explains-snoc files (first ∷ report) fault text said (of_first, rest, explains, is) =
    let added : List ℕ = fault_line fault ++ advice_lines said files fault in (
      of_first,
      rest ++ added,
      explains-snoc files report fault rest said explains,
      ap (λ it. it ++ added) is ∙ append_assoc (fault_line first ++ advice_lines of_first files first) rest added,
    )

-- what is printed of the faults so far, with one more printed after them
pub explains-more : (files : List File) (faults : List Fault) (i : ℕ) (fault : Fault) (old text one two added said : List ℕ) → i < length faults → fault ≡ get_or faults i fault
    → Explains files (take i faults) added → text ≡ old ++ added → one ≡ text ++ fault_line fault → two ≡ one ++ advice_lines said files fault
    → (more : List ℕ) × Explains files (take (i + 1) faults) more × (two ≡ old ++ more)
explains-more files faults i fault old text one two added said inside at explains so-far line advice =
    let F = fault_line fault in
    let A = advice_lines said files fault in
    let longer : take (i + 1) faults ≡ take i faults ++ fault ∷ [] = take_more faults i fault inside ∙ ap (λ f. take i faults ++ f ∷ []) (sym at) in (
      added ++ (F ++ A),
      subst (λ report. Explains files report (added ++ (F ++ A))) (sym longer) (explains-snoc files (take i faults) fault added said explains),
      advice ∙ ap (λ it. it ++ A) (line ∙ ap (λ it. it ++ F) so-far) ∙ append_assoc (old ++ added) F A ∙ append_assoc old added (F ++ A),
    )
