use Rattle.wtf_serve.proofs.Continuing.{begins_again, goes_on_again, goes_on_within}
use Rattle.wtf_serve.proofs.examples.a_run_goes_on_where_the_last_one_ended.Goals as goal

pub returns-clause-begins : goal.returns-clause-begins
returns-clause-begins g c = λ k0 k1 k2 k3 asked asked' status status' old new old' new' whole behind run.
    begins_again g.S.SliceStore.kind (g.K.Keeper.follows k0 k1) (g.K.Keeper.follows k2 k3) asked asked' status status' old new old' new' whole behind run

pub returns-clause-goes_on : goal.returns-clause-goes_on
returns-clause-goes_on g c = λ k0 k1 k2 k3 asked asked' status status' old new old' new' whole behind next.
    goes_on_again g.S.SliceStore.kind (g.K.Keeper.follows k0 k1) (g.K.Keeper.follows k2 k3) asked asked' status status' old new old' new' whole behind next

pub returns-clause-within : goal.returns-clause-within
returns-clause-within g c = λ k0 k1 k2 k3 asked asked' status status' old new old' new' whole behind from next.
    goes_on_within g.S.SliceStore.kind (g.K.Keeper.follows k0 k1) (g.K.Keeper.follows k2 k3) asked asked' status status' old new old' new' whole behind
    from next
