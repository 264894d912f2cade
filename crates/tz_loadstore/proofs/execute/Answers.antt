use Rattle.tz_loadstore.proofs.execute.Goals as goal

-- What the callee of each arm says, at the instruction that the arm has.
pub returns-in-Load-clause-executes : goal.returns-in-Load-clause-executes
returns-in-Load-clause-executes g c = rw c.in-Load.is c.load.ensures.executes

pub returns-in-LoadPair-clause-executes : goal.returns-in-LoadPair-clause-executes
returns-in-LoadPair-clause-executes g c = rw c.in-LoadPair.is c.load_pair.ensures.executes

pub returns-in-StorePair-clause-executes : goal.returns-in-StorePair-clause-executes
returns-in-StorePair-clause-executes g c = rw c.in-StorePair.is c.store_pair.ensures.executes

pub returns-in-LoadMany-clause-executes : goal.returns-in-LoadMany-clause-executes
returns-in-LoadMany-clause-executes g c = rw c.in-LoadMany.is c.load_many.ensures.executes

pub returns-in-StoreMany-clause-executes : goal.returns-in-StoreMany-clause-executes
returns-in-StoreMany-clause-executes g c = rw c.in-StoreMany.is c.store_many.ensures.executes

pub returns-in-StoreRelease-clause-executes : goal.returns-in-StoreRelease-clause-executes
returns-in-StoreRelease-clause-executes g c = rw c.in-StoreRelease.is c.store_release.ensures.executes

pub returns-in-Store-clause-executes : goal.returns-in-Store-clause-executes
returns-in-Store-clause-executes g c = rw c.in-Store.is c.store.ensures.executes

pub returns-in-LoadAcquire-clause-executes : goal.returns-in-LoadAcquire-clause-executes
returns-in-LoadAcquire-clause-executes g c = rw c.in-LoadAcquire.is (rw c.reg-addr.ensures at c.load_aligned-in-LoadAcquire.ensures.executes)
