use Rattle.td_query_walk.proofs.Counting.{counted-on, counted-up, query-counted, register-counted, value-counted}
use Rattle.td_query_walk.proofs.faults.faults_are_counted.Goals as goal

pub returns-clause-query : goal.returns-clause-query
returns-clause-query c = query-counted

pub returns-clause-evaluation : goal.returns-clause-evaluation
returns-clause-evaluation c = value-counted

pub returns-clause-register : goal.returns-clause-register
returns-clause-register c = register-counted

pub returns-clause-joined : goal.returns-clause-joined
returns-clause-joined c = counted-on

pub returns-clause-later : goal.returns-clause-later
returns-clause-later c = counted-up
