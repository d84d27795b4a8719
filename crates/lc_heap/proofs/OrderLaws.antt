-- The order of entries.
use Rattle.std.proofs.Common.{◌≡◌, true, false, arith}
use Rattle.std.proofs.lemmas.Bool.Decides.{nat_tests}
use Rattle.lc_heap.specs.declared.entry.Entry.{Entry}
use Rattle.lc_heap.specs.Order.{comes_before}

same_entry : (a b : Entry) → a.key ≡ b.key → a.kind ≡ b.kind → a.node ≡ b.node → a ≡ b
same_entry a b k i n = λ t. record { key = k t; kind = i t; node = n t }

pub total : (a b : Entry) → comes_before a b ≡ false → comes_before b a ≡ false → a ≡ b
unfolding comes_before
total a b p q =
    let k : a.key ≡ b.key = grind (arith, nat_tests) in
    let i : a.kind ≡ b.kind = grind (arith, nat_tests) in
    same_entry a b k i (grind (arith, nat_tests))

pub one_way : (a b : Entry) → comes_before a b ≡ true → comes_before b a ≡ false
unfolding comes_before
one_way a b p = grind (arith, nat_tests)

pub itself : (a : Entry) → comes_before a a ≡ false
unfolding comes_before
itself a = grind (arith, nat_tests)

pub chain : (a b c : Entry) → comes_before a b ≡ true → comes_before b c ≡ true → comes_before a c ≡ true
unfolding comes_before
chain a b c p q = grind (arith, nat_tests)

-- where c does not come before b, nor b before a, c does not come before a
pub not_before : (a b c : Entry) → comes_before c b ≡ false → comes_before b a ≡ false → comes_before c a ≡ false
unfolding comes_before
not_before a b c p q = grind (arith, nat_tests)
