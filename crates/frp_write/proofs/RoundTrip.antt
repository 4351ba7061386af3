-- A lawful file that is written is read again.
use Rattle.std.proofs.Common.{◌≡◌, List, Ok, Err, refl, sym, ap, ◌∙◌}
use Rattle.frp_lex.specs.declared.token.Token.{Token}
use Rattle.frp_lex.specs.Gives.{LexOutcome}
use Rattle.frp_lex.specs.Tokens.{tokens}
use Rattle.frp_lex.specs.Spelling.{kinds, kinds_read}
use Rattle.frp_file.specs.declared.file.File.{File}
use Rattle.frp_form.specs.Gives as form
use Rattle.frp_form.specs.File.{file_of}
use Rattle.frp_write.specs.Writing.{Kinds, run_together, forms_of, canonical}
use Rattle.frp_write.specs.Places.{unplaced}
use Rattle.frp_write.specs.RoundTrip.{in_check, AreReadAs, WrittenIsRead, CanonicalIsRead, CanonicalTells, ReadIsLawful}
use Rattle.frp_form.proofs.FileGrammar.{read_is_grammar_lem, grammar_is_read_lem}
use Rattle.frp_write.proofs.PlacedFile.{file_placed}
use Rattle.frp_write.proofs.Lines.{lines_are_lexed}
use Rattle.frp_write.proofs.LawfulTokens.{forms_lawful}
use Rattle.frp_write.proofs.ReadFiles.{file_allowed}
use Rattle.frp_lex.proofs.Canonical.{lexed_is_lawful_lem}

-- what has tokens of these kinds has tokens
kinds_of_read : (r : LexOutcome (List Token)) (ks : Kinds) → kinds_read r ≡ Ok ks → (ts : List Token) × (r ≡ Ok ts) × (kinds ts ≡ ks)
kinds_of_read (Ok ts) ks h = (ts, refl, ok_kinds (kinds ts) ks h) where
  ok_kinds : (js ls : Kinds) → ◌≡◌ {A = LexOutcome Kinds} (Ok js) (Ok ls) → js ≡ ls
  ok_kinds js ls h = cc
kinds_of_read (Err f) ks h = absurd cc

pub written_is_read_lem : WrittenIsRead
written_is_read_lem f ts h e = λ end. let p = file_placed f h ts e in (p.y, grammar_is_read_lem end in_check ts p.y p.is, p.same)

pub canonical_is_read_lem : CanonicalIsRead
canonical_is_read_lem f h =
    let p = kinds_of_read (tokens (canonical f)) (run_together (forms_of f)) (lines_are_lexed (forms_of f) (forms_lawful f h)) in
    (p.0, p.1, written_is_read_lem f p.0 h p.2)

one_file : (ts us : List Token) (f g : File) → ◌≡◌ {A = LexOutcome (List Token)} (Ok ts) (Ok us) → AreReadAs f ts → AreReadAs g us → unplaced f ≡ unplaced g
one_file ts us f g e p q =
    let d : ts ≡ us = cc in
    let x = p 0 in
    let y = q 0 in
    let same : ◌≡◌ {A = form.FormOutcome File} (Ok x.0) (Ok y.0) = sym x.1 ∙ ap (file_of 0 in_check) d ∙ y.1 in
    let files : x.0 ≡ y.0 = cc in
    sym x.2 ∙ ap unplaced files ∙ y.2

pub canonical_tells_lem : CanonicalTells
canonical_tells_lem f g h i e =
    let p = canonical_is_read_lem f h in
    let q = canonical_is_read_lem g i in
    one_file p.0 q.0 f g (sym p.1 ∙ ap tokens e ∙ q.1) p.2 q.2

pub read_is_lawful_lem : ReadIsLawful
read_is_lawful_lem bs ts end how f h e = file_allowed how f ts (read_is_grammar_lem end how ts f e) (lexed_is_lawful_lem bs ts h)
