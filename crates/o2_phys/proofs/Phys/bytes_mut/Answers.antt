use Rattle.std.proofs.Common.{◌≡◌, ℕ, ◌+◌, ◌≤◌, ◌++◌, List, length, take, drop, refl, rules, arith, rules, append_assoc, length-append, length-take, length-drop, append-nil, drop-drop}
use Rattle.std.proofs.lemmas.List.{drop_all}
use Rattle.o2_phys.specs.Bytes.{with_part}
use Rattle.o2_phys.proofs.Phys.bytes_mut.Goals as goal

lent : (xs ys w : List ℕ) (at n : ℕ) → xs ≡ ys → n ≡ length xs → at ≤ length ys
    → take n ((take at xs ++ (w ++ drop (length w) (drop at xs))) ++ drop (length (take at xs ++ (w ++ drop (length w) (drop at xs)))) xs) ≡ take (length ys) (with_part ys at w)
lent xs ys w at n same e h =
    let within : at ≤ length xs = rw same h in
    let long : length xs ≤ length (take at xs ++ (w ++ drop (length w) (drop at xs))) = simp (length-append, length-take, length-drop) (omega arith) in
    let none = drop_all (length (take at xs ++ (w ++ drop (length w) (drop at xs)))) xs long in
    rw none (rw (append-nil (take at xs ++ (w ++ drop (length w) (drop at xs)))) (rw (drop-drop (length w) at xs) (rw (← append_assoc (take at xs) w (drop (at + length w) xs)) (rw (e, ← same) refl))))

pub returns : goal.returns
returns c =
    let v = c.self.inside.mem in
    ((refl, λ w. lent v.items c.args.self.now w c.args.at v.len c.self.view_is (search rules) (omega arith)), record { writes_back = tt; value = search rules })
