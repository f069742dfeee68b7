mod Named
mod Rounds
mod Hands
mod Deals
mod Takes
