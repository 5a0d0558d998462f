-- A contract of several clauses is a record, each with its own names: what a lemma says of all of them at once, handed to the record.
-- The record comes first, since its fields' types are those that the lemma is asked for.

pub two : {A B G : Type 0} → (A → B → G) → A × B → G
two made p = made p.0 p.1

pub three : {A B C G : Type 0} → (A → B → C → G) → A × B × C → G
three made p = made p.0 p.1 p.2

pub four : {A B C D G : Type 0} → (A → B → C → D → G) → A × B × C × D → G
four made p = made p.0 p.1 p.2 p.3
