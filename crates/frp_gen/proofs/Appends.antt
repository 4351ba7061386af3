-- What is written in three pieces.
use Rattle.std.proofs.Common.{◌≡◌, ℕ, List, ◌++◌, append_assoc, ap, ◌∙◌}

grouped : (t a b c : List ℕ) → ((t ++ a) ++ b) ++ c ≡ t ++ ((a ++ b) ++ c)
grouped t a b c = simp append_assoc

pub three_appended : (t u v w a b c : List ℕ) → u ≡ t ++ a → v ≡ u ++ b → w ≡ v ++ c → w ≡ t ++ ((a ++ b) ++ c)
three_appended t u v w a b c first second third =
    third ∙ ap (λ s. s ++ c) (second ∙ ap (λ s. s ++ b) first) ∙ grouped t a b c
