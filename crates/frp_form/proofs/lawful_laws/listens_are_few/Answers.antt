use Rattle.frp_form.proofs.Counts.{listens_are_few_lem, senders_are_few_lem, one_sender_lem, sends_are_few_lem}
use Rattle.frp_form.proofs.lawful_laws.listens_are_few.Goals as goal

pub returns-clause-listens : goal.returns-clause-listens
returns-clause-listens c = listens_are_few_lem

pub returns-clause-senders : goal.returns-clause-senders
returns-clause-senders c = senders_are_few_lem

pub returns-clause-one_sender : goal.returns-clause-one_sender
returns-clause-one_sender c = one_sender_lem

pub returns-clause-sends : goal.returns-clause-sends
returns-clause-sends c = sends_are_few_lem
