use Rattle.std.proofs.Common.{◌≡◌, ◌⊎◌, ◌∙◌, ◌<◌, ◌^◌, ◌++◌, [], ◌∷◌, ℕ, List, length, arith, ap, subst, length-append}
use Rattle.std.specs.Int.{w64, to_be_bytes}
use Rattle.wtf_dev.specs.Disk.{IsSettled, DiskLeaves}
use Rattle.wtf_journal.specs.Moments.{weaker}
use Rattle.wtf_journal.specs.Views.{JournalView, body_of}
use Rattle.wtf_journal.specs.Records.{framed, records, gated, IsShut, IsGated}
use Rattle.wtf_journal.proofs.Bytes.{has_one, gated_is, end_after, short-push}
use Rattle.wtf_journal.proofs.journal.Journal.append.Goals as goal

-- so the body has 64 bits of length
one : (body bytes : List ℕ) → bytes ≡ framed body ++ 0 ∷ [] → length bytes < 2 ^ 64 → length body < 2 ^ 64
one body bytes is short = omega (arith, short, ap length is, length-append (framed body) (0 ∷ []), length-append (to_be_bytes w64 (length body)) body)

at_is : {inside now : JournalView} {end : ℕ} → inside ≡ now → now.end ≡ end → inside.end ≡ end
at_is same is = ap (λ (v : JournalView). v.end) same ∙ is

pub returns-in_err-add-clause-any_moment : goal.returns-in_err-add-clause-any_moment
returns-in_err-add-clause-any_moment g c = λ bodies tells rests.
    let old = c.args.disk.now in
    let s = records bodies ++ (rests.gate ∷ rests.rest) in
    let body = body_of c.args.body in
    let bytes = c.deref.ensures.value ∙ c.in_ok-bytes.ensures.bytes in
    let span = subst (λ (b : List ℕ). DiskLeaves g.D.Disk.kind old c.add.new.disk
    (λ x. IsShut s c.self.inside.end (x 0) ⊎ IsGated s c.self.inside.end b (x 0))) bytes (c.add.ensures.any_moment s tells rests.settled) in
    weaker g.D.Disk.kind old c.add.new.disk _ _ span
    (λ x is. has_one bodies rests.gate rests.closed rests.rest body c.self.inside.end (at_is c.self.view_is rests.end_is) rests.short
    (one body _ c.in_ok-bytes.ensures.bytes c.in_ok-bytes.ensures.short) (x 0) is)

pub returns-clause-any_moment : goal.returns-clause-any_moment
returns-clause-any_moment g c = λ bodies tells rests.
    let old = c.args.disk.now in
    let s = records bodies ++ (rests.gate ∷ rests.rest) in
    let body = body_of c.args.body in
    let bytes = c.deref.ensures.value ∙ c.in_ok-bytes.ensures.bytes in
    let span = subst (λ (b : List ℕ). DiskLeaves g.D.Disk.kind old c.add.new.disk
    (λ x. IsShut s c.self.inside.end (x 0) ⊎ IsGated s c.self.inside.end b (x 0))) bytes (c.add.ensures.any_moment s tells rests.settled) in
    weaker g.D.Disk.kind old c.add.new.disk _ _ span
    (λ x is. has_one bodies rests.gate rests.closed rests.rest body c.self.inside.end (at_is c.self.view_is rests.end_is) rests.short
    (one body _ c.in_ok-bytes.ensures.bytes c.in_ok-bytes.ensures.short) (x 0) is)

pub returns-clause-settled : goal.returns-clause-settled
returns-clause-settled g c = λ tells.
    let seen = ((g.D.Disk.kind.view c.args.disk.now).file 0).seen in
    let bytes = c.deref.ensures.value ∙ c.in_ok-bytes.ensures.bytes in
    subst (λ (l : List ℕ). IsSettled l ((g.D.Disk.kind.view c.add.new.disk).file 0))
    (ap (λ (b : List ℕ). gated seen c.self.inside.end b 1) bytes
    ∙ ap (λ (v : JournalView). gated seen v.end (framed (body_of c.args.body) ++ 0 ∷ []) 1) c.self.view_is)
    (c.in_ok-add.ensures.done tells)

pub returns-clause-acknowledged : goal.returns-clause-acknowledged
returns-clause-acknowledged g c = λ bodies tells rests.
    let at = c.self.inside.end in
    let body = body_of c.args.body in
    let bytes = c.deref.ensures.value ∙ c.in_ok-bytes.ensures.bytes in
    let ends = at_is c.self.view_is rests.end_is in
    record {
      gate = 0;
      closed = omega arith;
      rest = _;
      settled = subst (λ (l : List ℕ). IsSettled l ((g.D.Disk.kind.view c.add.new.disk).file 0))
          (ap (λ (seen : List ℕ). gated seen at c.deref.result.now 1) rests.settled.seen
          ∙ ap (λ (b : List ℕ). gated (records bodies ++ (rests.gate ∷ rests.rest)) at b 1) bytes
          ∙ gated_is bodies rests.gate rests.closed rests.rest body at ends) (c.in_ok-add.ensures.done tells);
      end_is = omega (arith, end_after bodies rests.gate rests.closed rests.rest body at ends, ap length c.in_ok-bytes.ensures.bytes);
      short = short-push bodies body rests.short (one body _ c.in_ok-bytes.ensures.bytes c.in_ok-bytes.ensures.short);
    }
