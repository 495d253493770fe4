use Rattle.ss_delayed.specs.Parts.{use_of}
use Rattle.ss_delayed.proofs.Added.{chain_found, path_found, quantified_found, base_found}
use Rattle.ss_delayed.proofs.escapes.+uses.Goals as goal

pub find_uses-returns-in_ok-find_in_links-in-Chain : goal.find_uses-returns-in_ok-find_in_links-in-Chain
find_uses-returns-in_ok-find_in_links-in-Chain t c =
    let a = c.in-Chain in
    chain_found (use_of c.args.allowed) a.field-0 a.first a.links c.args.e.now c.deref-in-Chain.result.now c.deref.result.now
    c.args.found.now.items c.find_uses.new.found.items c.find_in_links.new.found.items
    a.is c.deref.ensures c.deref-in-Chain.ensures.value c.in_ok-find_uses-in-Chain.ensures c.in_ok-find_in_links-in-Chain.ensures

pub find_uses-returns-in_ok-find_in_steps-in-Path : goal.find_uses-returns-in_ok-find_in_steps-in-Path
find_uses-returns-in_ok-find_in_steps-in-Path t c =
    let a = c.in-Path in
    path_found (use_of c.args.allowed) a.field-0 a.first a.steps c.args.e.now c.deref-in-Path-4.result.now c.deref-in-Path-2.result.now c.deref-in-Path-3.result.now c.deref-in-Path.result.now
    c.is_allowed_read-is_read.result c.args.found.now.items c.find_unless.new.found.items c.find_in_steps.new.found.items
    a.is c.deref-in-Path-3.ensures c.deref-in-Path.ensures c.deref-in-Path-4.ensures.value c.deref-in-Path-2.ensures.value c.is_allowed_read-is_read.ensures
    c.in_ok-find_unless-in-Path.ensures c.in_ok-find_in_steps-in-Path.ensures

pub find_uses-returns-in_ok-find_uses-in-Quantified-3 : goal.find_uses-returns-in_ok-find_uses-in-Quantified-3
find_uses-returns-in_ok-find_uses-in-Quantified-3 t c =
    let a = c.in-Quantified in
    quantified_found (use_of c.args.allowed) a.field-0 a.field-1 a.field-2 a.low a.high a.member c.args.e.now
    c.deref-in-Quantified.result.now c.deref-in-Quantified-2.result.now c.deref-in-Quantified-3.result.now
    c.args.found.now.items c.find_uses-in-Quantified.new.found.items c.find_uses-in-Quantified-2.new.found.items c.find_uses-in-Quantified-3.new.found.items
    a.is c.deref-in-Quantified.ensures c.deref-in-Quantified-2.ensures c.deref-in-Quantified-3.ensures
    c.in_ok-find_uses-in-Quantified.ensures c.in_ok-find_uses-in-Quantified-2.ensures c.in_ok-find_uses-in-Quantified-3.ensures

pub find_uses-returns-in_ok-find_in_each-in-Base : goal.find_uses-returns-in_ok-find_in_each-in-Base
find_uses-returns-in_ok-find_in_each-in-Base t c =
    let a = c.in-Base in
    base_found (use_of c.args.allowed) a.place a.field-1 a.field-2 a.list c.args.e.now c.deref-in-Base.result.now
    c.args.found.now.items c.push.new.self.items c.find_in_each.new.found.items
    a.is c.deref-in-Base.ensures.value c.in_ok-push-in-Base.ensures.items c.in_ok-find_in_each-in-Base.ensures
