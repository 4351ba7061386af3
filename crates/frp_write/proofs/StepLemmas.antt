-- Tokens that are appended one after the other.
use Rattle.std.proofs.Common.{◌≡◌, ℕ, List, [], ◌∷◌, ◌++◌, Result, Ok, Err, refl, sym, ap, ◌∙◌, append_assoc}
use Rattle.std.specs.Prelude.{OnOk}
use Rattle.frp_base.specs.declared.memory.Memory.{Memory}
use Rattle.frp_lex.specs.Spelling.{spelling}
use Rattle.frp_write.specs.Writing.{Kinds, lines}

-- what holds where a call went well
pub on_ok : (r : Result (Unit {0}) Memory) (P Q : Type 0) → (P → Q) → OnOk r P → OnOk r Q
on_ok (Ok u) P Q f h = f h
on_ok (Err e) P Q f h = tt

-- two parts, and then one
pub two_first : (old mid new last a b c : Kinds) → mid ≡ old ++ a → new ≡ mid ++ b → last ≡ new ++ c → last ≡ old ++ (a ++ b) ++ c
two_first old mid new last a b c e f g = g ∙ ap (λ (l : Kinds). l ++ c) (f ∙ ap (λ (l : Kinds). l ++ b) e ∙ append_assoc old a b)

-- one part, another, and then two
pub one_and_two : (old mid new last a b c d : Kinds) → mid ≡ old ++ a → new ≡ mid ++ b → last ≡ new ++ c ++ d → last ≡ old ++ (a ++ ((b ++ c) ++ d))
one_and_two old mid new last a b c d e f g =
    g ∙ ap (λ (l : Kinds). l ++ c ++ d) (f ∙ ap (λ (l : Kinds). l ++ b) e)
    ∙ ap (λ (l : Kinds). l ++ d) (append_assoc (old ++ a) b c) ∙ append_assoc (old ++ a) (b ++ c) d ∙ append_assoc old a ((b ++ c) ++ d)

-- lines behind lines
pub lines_append : (xs ys : List Kinds) → lines (xs ++ ys) ≡ lines xs ++ lines ys
lines_append [] ys = refl
lines_append (x ∷ xs) ys = ap (λ (l : List ℕ). spelling x ++ 10 ∷ l) (lines_append xs ys) ∙ sym (append_assoc (spelling x) (10 ∷ lines xs) (lines ys))

-- a line, lines and lines
pub all_lines : (first second third last : List ℕ) (line : Kinds) (ls ss : List Kinds) → first ≡ [] → second ≡ first ++ spelling line ++ 10 ∷ [] → third ≡ second ++ lines ls → last ≡ third ++ lines ss → last ≡ lines (line ∷ ls ++ ss)
all_lines first second third last line ls ss d e f g =
    g ∙ ap (λ (l : List ℕ). l ++ lines ss) (f ∙ ap (λ (l : List ℕ). l ++ lines ls) (e ∙ ap (λ (l : List ℕ). l ++ spelling line ++ 10 ∷ []) d))
    ∙ append_assoc (spelling line ++ 10 ∷ []) (lines ls) (lines ss) ∙ append_assoc (spelling line) (10 ∷ []) (lines ls ++ lines ss)
    ∙ ap (λ (l : List ℕ). spelling line ++ 10 ∷ l) (sym (lines_append ls ss))
