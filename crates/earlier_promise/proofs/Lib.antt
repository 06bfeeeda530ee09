mod Channels
mod Stations
mod Small
