-- Answers that hold no other.
use Rattle.std.proofs.Common.{refl}
use Rattle.wtf_model.specs.declared.answer.Answer.{Answer, Aborted'}
use Rattle.wtf_model.specs.Same.{AreSame}
use Rattle.wtf_print.specs.Forms.{IsPlain, IsWritable}

pub plain-writable : (a : Answer) → IsPlain a → IsWritable a
plain-writable (Aborted' i box a) h = absurd h
plain-writable a h = h

pub plain-same : (a : Answer) → IsPlain a → AreSame a a
plain-same (Aborted' i box a) h = absurd h
plain-same a h = refl
