use Rattle.std.proofs.Common.{ap, ◌∙◌}
use Rattle.wtf_kv.specs.Stores.{versions_of}
use Rattle.wtf_values.specs.Keys.{key_cmp}
use Rattle.wtf_meta.specs.Maps.{metadata_at}
use Rattle.wtf_compact.proofs.PutLaws.{put_along, put_stands, put_bytes}
use Rattle.wtf_compact.proofs.putting.put.Goals as goal

pub returns-clause-put : goal.returns-clause-put
returns-clause-put c =
    let left = c.drop_job.ensures.rest in
    put_along c.in-Ok.answer c.args.job c.args.kv.now c.install.new.kv c.drop_job.new.kv (ap (λ s. s.number) left) (λ n. ap (λ s. metadata_at s n) left)
    (λ q. ap (λ s. versions_of key_cmp s q) left) c.in-Ok.ensures.put

pub returns-clause-stands : goal.returns-clause-stands
returns-clause-stands c = λ b told tx k t keeps stands.
    put_stands b told tx k t c.in-Ok.answer c.args.job c.args.kv.now c.drop_job.new.kv (returns-clause-put c) keeps stands

pub returns-clause-names : goal.returns-clause-names
returns-clause-names c = λ P Q hole named own.
    put_bytes P Q hole c.in-Ok.answer c.args.job c.args.kv.now c.drop_job.new.kv (returns-clause-put c) named own

pub returns-clause-maps : goal.returns-clause-maps
returns-clause-maps c = λ n le. ap (λ s. metadata_at s n) c.drop_job.ensures.rest ∙ c.install.ensures.maps n le
