use Rattle.ss_resolver_expressions.proofs.calls.call_of.Goals as goal

pub returns-in-Class : goal.returns-in-Class
returns-in-Class c = λ a. rw c.in-Class.is (c.method_call.ensures a)

pub returns-in-Value : goal.returns-in-Value
returns-in-Value c = λ a. rw (c.in-Value.is, ← c.class_of_value-class.ensures a) (c.method_call-in-Value.ensures a)
