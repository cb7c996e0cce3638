-- What is known of the notes of a message that has the right size, and of one that is well formed.
use Rattle.std.specs.Prelude.{◌≡◌, true, false, List, ℕ}
use Rattle.std.proofs.Common.{◌∙◌}
use Rattle.rules.specs.Refusals.{wrong_size}
use Rattle.rules.specs.Message.{well_formed}
use Rattle.notes.specs.Noted.{Noted, Heard}
use Rattle.notes.specs.declared.Notes.{Notes}

module _ (m : List ℕ) (s : Notes) (h : Heard m s) (g : wrong_size m ≡ false) where
  pub formed-is : s.formed ≡ well_formed m
  formed-is = h.formed ∙ rw g

  pub is-noted : well_formed m ≡ true → Noted m s
  is-noted w = h.noted (formed-is ∙ w)
