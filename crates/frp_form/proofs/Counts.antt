-- How much of each thing a file that is read has at most.
use Rattle.std.proofs.Common.{◌≡◌, ◌*◌, ◌≤◌, Bool, true, false, List, ◌++◌, length, refl, length-append, arith}
use Rattle.std.specs.List.{AllByRecursion}
use Rattle.frp_lex.specs.declared.token.Token.{Token}
use Rattle.frp_file.specs.declared.file.Listen.{Listen}
use Rattle.frp_file.specs.declared.file.Sender.{Sender}
use Rattle.frp_file.specs.declared.file.File.{File}
use Rattle.frp_form.specs.declared.reading.Reading.{Reading}
use Rattle.frp_form.specs.Grammar.{AreAll, none, more, IsListen, listen_is, IsSender, sender_is, most_senders, IsFile, file_is}
use Rattle.frp_form.specs.LawfulReading.{ListensAreFew, SendersAreFew, OneSenderIsRead, SendsAreFew}
use Rattle.frp_form.proofs.FileGrammar.{read_is_grammar_lem}

listen_length : (x : Listen) (ts : List Token) → IsListen x ts → length ts ≡ 4
listen_length x ts (listen_is a b c n user) = refl

listens_length : (xs : List Listen) (ts : List Token) → AreAll IsListen xs ts → 4 * length xs ≤ length ts
listens_length xs ts none = omega arith
listens_length xs ts (more x ys us vs is all) =
    let first = listen_length x us is in
    let others = listens_length ys vs all in
    omega (arith, length-append us vs)

listens_few : (how : Reading) (f : File) (ts : List Token) → IsFile how f ts → 4 * length f.listens ≤ length ts
listens_few how f ts (file_is g listens senders gs ls ss first are others few) =
    let some = listens_length listens ls are in
    omega (arith, length-append (gs ++ ls) ss, length-append gs ls)

senders_few : (how : Reading) (f : File) (ts : List Token) → IsFile how f ts → length f.senders ≤ most_senders how
senders_few how f ts (file_is g listens senders gs ls ss first are others few) = few

abbrev FewSends : Sender → Type 0
FewSends s = length s.sends ≤ 4096

sender_few : (x : Sender) (ts : List Token) → IsSender x ts → FewSends x
sender_few x ts (sender_is a b c sends us few all) = few

all_few : (xs : List Sender) (ts : List Token) → AreAll IsSender xs ts → AllByRecursion FewSends xs
all_few xs ts none = tt
all_few xs ts (more x ys us vs is all) = (sender_few x us is, all_few ys vs all)

sends_few : (how : Reading) (f : File) (ts : List Token) → IsFile how f ts → AllByRecursion FewSends f.senders
sends_few how f ts (file_is g listens senders gs ls ss first are others few) = all_few senders ss others

most_is : (how : Reading) (one : Bool) → how.one_sender ≡ one → most_senders how ≤ 16
most_is how true e = rw e (omega arith)
most_is how false e = rw e (omega arith)

pub listens_are_few_lem : ListensAreFew
listens_are_few_lem end how ts f h = listens_few how f ts (read_is_grammar_lem end how ts f h)

pub senders_are_few_lem : SendersAreFew
senders_are_few_lem end how ts f h =
    let few = senders_few how f ts (read_is_grammar_lem end how ts f h) in
    let most = most_is how how.one_sender refl in
    omega arith

pub one_sender_lem : OneSenderIsRead
one_sender_lem end how ts f one h = rw one at (senders_few how f ts (read_is_grammar_lem end how ts f h))

pub sends_are_few_lem : SendsAreFew
sends_are_few_lem end how ts f h = sends_few how f ts (read_is_grammar_lem end how ts f h)
